use Rattle.std.proofs.Common.{refl}
use Rattle.dubp_pow.specs.declared.table.TheConstants.{ROWS}
use Rattle.dubp_pow.proofs.Rows.{ladder_rows}
use Rattle.dubp_pow.proofs.table.ladder.Goals as goal

pub returns-clause-rows : goal.returns-clause-rows
returns-clause-rows c = ladder_rows ROWS refl
