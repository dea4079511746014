use Rattle.std.proofs.Common.{arith, refl}
use Rattle.dubp_params.proofs.ranges.is_at_most_one.Goals as goal

pub returns-in-None : goal.returns-in-None
returns-in-None c = (λ _. omega (arith, c.in-None.ensures), λ _. refl)
