use Rattle.dubp_money_steps.proofs.Totals.{limit_stays as law}
use Rattle.dubp_money_steps.proofs.laws.limit_stays.Goals as goal

pub returns : goal.returns
returns c = law
