use Rattle.dubp_money_steps.proofs.Ranges.{sources_are_rows_before_clearing as law}
use Rattle.dubp_money_steps.proofs.laws.sources_are_rows_before_clearing.Goals as goal

pub returns : goal.returns
returns c = law
