use Rattle.dubp_steps.proofs.Kicked.{kicked_stays as law}
use Rattle.dubp_steps.proofs.laws.kicked_stays.Goals as goal

pub returns : goal.returns
returns c = law
