use Rattle.dubp_steps.proofs.Counts.{stock_is_of_table as law}
use Rattle.dubp_steps.proofs.laws.stock_is_of_table.Goals as goal

pub returns : goal.returns
returns c = law
