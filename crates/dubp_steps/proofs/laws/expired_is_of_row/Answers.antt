use Rattle.dubp_steps.proofs.Counts.{expired_is_of_row as law}
use Rattle.dubp_steps.proofs.laws.expired_is_of_row.Goals as goal

pub returns : goal.returns
returns c = law
