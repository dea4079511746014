use Rattle.dubp_money_steps.proofs.Enough.{kept_have_enough as law}
use Rattle.dubp_money_steps.proofs.laws.kept_have_enough.Goals as goal

pub returns : goal.returns
returns c = law
