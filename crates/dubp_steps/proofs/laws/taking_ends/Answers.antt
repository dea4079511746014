use Rattle.dubp_steps.proofs.Taking.{taking_ends as law}
use Rattle.dubp_steps.proofs.laws.taking_ends.Goals as goal

pub returns : goal.returns
returns c = law
