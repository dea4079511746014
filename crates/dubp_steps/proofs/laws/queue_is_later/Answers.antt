use Rattle.dubp_steps.proofs.Counts.{queue_is_later as law}
use Rattle.dubp_steps.proofs.laws.queue_is_later.Goals as goal

pub returns : goal.returns
returns c = law
