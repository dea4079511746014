use Rattle.dubp_steps.proofs.Taking.{taking_starts as law}
use Rattle.dubp_steps.proofs.laws.taking_starts.Goals as goal

pub returns : goal.returns
returns c = law
