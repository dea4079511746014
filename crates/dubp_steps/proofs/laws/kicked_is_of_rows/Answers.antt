use Rattle.dubp_steps.proofs.Kicked.{kicked_is_of_rows as law}
use Rattle.dubp_steps.proofs.laws.kicked_is_of_rows.Goals as goal

pub returns : goal.returns
returns c = law
