use Rattle.dubp_steps.proofs.Rows.{membership_step as law}
use Rattle.dubp_steps.proofs.laws.membership_step.Goals as goal

pub returns : goal.returns
returns c = law
