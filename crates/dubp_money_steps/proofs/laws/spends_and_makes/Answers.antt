use Rattle.dubp_money_steps.proofs.Transacted.{spends_and_makes as law}
use Rattle.dubp_money_steps.proofs.laws.spends_and_makes.Goals as goal

pub returns : goal.returns
returns c = law
