use Rattle.dubp_turn_laws.proofs.Apart.{stay_apart}
use Rattle.dubp_turn_laws.proofs.laws.failures_stay_apart.Goals as goal

pub returns : goal.returns
returns c = stay_apart
