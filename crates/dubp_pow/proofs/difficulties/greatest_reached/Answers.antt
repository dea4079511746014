use Rattle.std.proofs.Common.{arith}
use Rattle.dubp_pow.proofs.Handicaps.{below_first_past}
use Rattle.dubp_pow.proofs.difficulties.greatest_reached.Goals as goal

pub returns-then-reach-at : goal.returns-then-reach-at
returns-then-reach-at c =
    let h = c.loop-h.h in
    below_first_past c.args.blocks c.args.doubled_median h (omega arith) (omega arith) c.loop-h.invariant (rw (← c.at.ensures) c.if-reach-at.true)
