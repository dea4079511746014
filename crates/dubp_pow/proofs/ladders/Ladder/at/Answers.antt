use Rattle.std.proofs.Common.{arith}
use Rattle.dubp_pow.proofs.Rows.{ladder_rows}
use Rattle.dubp_pow.proofs.ladders.Ladder.at.Goals as goal

pub returns : goal.returns
returns g c = ladder_rows c.self.inside.rows c.self.invariant c.args.h (omega arith)
