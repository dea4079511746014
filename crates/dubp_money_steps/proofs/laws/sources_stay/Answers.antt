use Rattle.dubp_money_steps.proofs.Numbering.{sources_stay as law}
use Rattle.dubp_money_steps.proofs.laws.sources_stay.Goals as goal

pub returns : goal.returns
returns c = law
