-- What is left of the times stays in rising order.
use Rattle.std.proofs.Common.{arith}
use Rattle.dubp_time.proofs.Places.{rising_without}
use Rattle.dubp_time.proofs.window.Window.remove.Goals as goal

pub invariant_of-self : goal.invariant_of-self
invariant_of-self c =
    record {
      rising = rising_without c.self.inside.times.items _ _ c.remove.ensures.by_index.0 c.remove.ensures.by_index.1 (omega arith) c.self.invariant.rising;
      fits = omega arith;
      taken = omega arith;
    }

pub returns-clause-rising : goal.returns-clause-rising
returns-clause-rising c =
    rising_without c.self.inside.times.items _ _ c.remove.ensures.by_index.0 c.remove.ensures.by_index.1 (omega arith) c.self.invariant.rising
