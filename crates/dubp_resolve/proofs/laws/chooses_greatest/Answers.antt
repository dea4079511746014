use Rattle.dubp_resolve.proofs.Greatest.{choice_is}
use Rattle.dubp_resolve.proofs.laws.chooses_greatest.Goals as goal

pub returns : goal.returns
returns c = choice_is
