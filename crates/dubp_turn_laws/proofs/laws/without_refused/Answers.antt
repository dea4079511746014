use Rattle.dubp_turn_laws.proofs.Memory.{other_turn}
use Rattle.dubp_turn_laws.proofs.Runs.{without_lacks}
use Rattle.dubp_turn_laws.proofs.laws.without_refused.Goals as goal

pub returns-clause-other : goal.returns-clause-other
returns-clause-other c = other_turn

pub returns-clause-rest : goal.returns-clause-rest
returns-clause-rest c = without_lacks
