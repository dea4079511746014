use Rattle.dubp_steps.proofs.Lives.{received_is_count as law}
use Rattle.dubp_steps.proofs.laws.received_is_count.Goals as goal

pub returns : goal.returns
returns c = law
