use Rattle.dubp_steps.proofs.Lines.{queue_stands as law}
use Rattle.dubp_steps.proofs.laws.queue_stands.Goals as goal

pub returns : goal.returns
returns c = law
