use Rattle.dubp_expiry.proofs.Order.{derived_at}
use Rattle.dubp_expiry.proofs.laws.dues_are_ordered.Goals as goal

pub returns : goal.returns
returns c = derived_at
