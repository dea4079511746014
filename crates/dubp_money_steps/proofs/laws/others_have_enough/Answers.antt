use Rattle.dubp_money_steps.proofs.Enough.{others_have_enough as law}
use Rattle.dubp_money_steps.proofs.laws.others_have_enough.Goals as goal

pub returns : goal.returns
returns c = law
