use Rattle.dubp_steps.proofs.Counts.{received_is_of_table as law}
use Rattle.dubp_steps.proofs.laws.received_is_of_table.Goals as goal

pub returns : goal.returns
returns c = law
