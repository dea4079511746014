use Rattle.dubp_money_steps.proofs.Numbering.{states_stay as law}
use Rattle.dubp_money_steps.proofs.laws.states_stay.Goals as goal

pub returns : goal.returns
returns c = law
