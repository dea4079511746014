use Rattle.dubp_steps.proofs.Rows.{certification_step as law}
use Rattle.dubp_steps.proofs.laws.certification_step.Goals as goal

pub returns : goal.returns
returns c = law
