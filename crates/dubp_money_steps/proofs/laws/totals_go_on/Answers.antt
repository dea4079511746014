use Rattle.dubp_money_steps.proofs.Totals.{totals_go_on as law}
use Rattle.dubp_money_steps.proofs.laws.totals_go_on.Goals as goal

pub returns : goal.returns
returns c = law
