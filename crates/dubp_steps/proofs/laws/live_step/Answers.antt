use Rattle.dubp_steps.proofs.Counts.{live_step as law}
use Rattle.dubp_steps.proofs.laws.live_step.Goals as goal

pub returns : goal.returns
returns c = law
