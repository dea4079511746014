use Rattle.dubp_money_steps.proofs.Cleared.{clears_rows as law}
use Rattle.dubp_money_steps.proofs.laws.clears_rows.Goals as goal

pub returns : goal.returns
returns c = law
