use Rattle.dubp_money_steps.proofs.Ranges.{made_are_small as law}
use Rattle.dubp_money_steps.proofs.laws.made_are_small.Goals as goal

pub returns : goal.returns
returns c = law
