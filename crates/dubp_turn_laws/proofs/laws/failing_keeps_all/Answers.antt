use Rattle.dubp_turn_laws.proofs.Failing.{failing_keeps}
use Rattle.dubp_turn_laws.proofs.laws.failing_keeps_all.Goals as goal

pub returns : goal.returns
returns c = failing_keeps
