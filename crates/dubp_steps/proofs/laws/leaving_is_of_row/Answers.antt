use Rattle.dubp_steps.proofs.Counts.{leaving_is_of_row as law}
use Rattle.dubp_steps.proofs.laws.leaving_is_of_row.Goals as goal

pub returns : goal.returns
returns c = law
