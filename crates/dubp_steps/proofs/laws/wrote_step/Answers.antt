use Rattle.dubp_steps.proofs.Lives.{wrote_step as law}
use Rattle.dubp_steps.proofs.laws.wrote_step.Goals as goal

pub returns : goal.returns
returns c = law
