use Rattle.dubp_steps.proofs.Stays.{membership_stays as law}
use Rattle.dubp_steps.proofs.laws.membership_stays.Goals as goal

pub returns : goal.returns
returns c = law
