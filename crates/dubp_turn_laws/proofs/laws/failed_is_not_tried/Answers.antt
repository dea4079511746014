use Rattle.dubp_turn_laws.proofs.Failing.{failed_not_tried}
use Rattle.dubp_turn_laws.proofs.laws.failed_is_not_tried.Goals as goal

pub returns : goal.returns
returns c = failed_not_tried
