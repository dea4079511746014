use Rattle.dubp_steps.proofs.Taking.{taking_goes_on as law}
use Rattle.dubp_steps.proofs.laws.taking_goes_on.Goals as goal

pub returns : goal.returns
returns c = law
