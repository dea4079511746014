use Rattle.dubp_turn_laws.proofs.Once.{switches_once}
use Rattle.dubp_turn_laws.proofs.laws.switches_one_way.Goals as goal

pub returns : goal.returns
returns c = switches_once
