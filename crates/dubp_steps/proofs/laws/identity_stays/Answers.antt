use Rattle.dubp_steps.proofs.Stays.{identity_stays as law}
use Rattle.dubp_steps.proofs.laws.identity_stays.Goals as goal

pub returns : goal.returns
returns c = law
