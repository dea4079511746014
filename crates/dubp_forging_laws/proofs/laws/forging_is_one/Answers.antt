use Rattle.dubp_forging_laws.proofs.Forging.{one_forging}
use Rattle.dubp_forging_laws.proofs.laws.forging_is_one.Goals as goal

pub returns : goal.returns
returns c = one_forging
