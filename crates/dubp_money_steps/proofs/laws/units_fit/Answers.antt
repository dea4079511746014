use Rattle.dubp_money_steps.proofs.Units.{units_fit as law}
use Rattle.dubp_money_steps.proofs.laws.units_fit.Goals as goal

pub returns : goal.returns
returns c = law
