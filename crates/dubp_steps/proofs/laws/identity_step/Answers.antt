use Rattle.dubp_steps.proofs.Rows.{identity_step as law}
use Rattle.dubp_steps.proofs.laws.identity_step.Goals as goal

pub returns : goal.returns
returns c = law
