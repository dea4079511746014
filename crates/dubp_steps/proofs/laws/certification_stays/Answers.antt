use Rattle.dubp_steps.proofs.Stays.{certification_stays as law}
use Rattle.dubp_steps.proofs.laws.certification_stays.Goals as goal

pub returns : goal.returns
returns c = law
