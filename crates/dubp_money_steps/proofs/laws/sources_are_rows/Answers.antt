use Rattle.dubp_money_steps.proofs.Ranges.{sources_are_rows as law}
use Rattle.dubp_money_steps.proofs.laws.sources_are_rows.Goals as goal

pub returns : goal.returns
returns c = law
