use Rattle.dubp_money_steps.proofs.Bounds.{made_stay_few as law}
use Rattle.dubp_money_steps.proofs.laws.made_stay_few.Goals as goal

pub returns : goal.returns
returns c = law
