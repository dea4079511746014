use Rattle.dubp_steps.proofs.Counts.{live_at_is_of_row as law}
use Rattle.dubp_steps.proofs.laws.live_at_is_of_row.Goals as goal

pub returns : goal.returns
returns c = law
