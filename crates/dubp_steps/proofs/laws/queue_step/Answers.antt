use Rattle.dubp_steps.proofs.Queue.{queue_step as law}
use Rattle.dubp_steps.proofs.laws.queue_step.Goals as goal

pub returns : goal.returns
returns c = law
