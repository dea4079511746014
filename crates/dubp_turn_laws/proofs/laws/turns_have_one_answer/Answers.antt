use Rattle.dubp_turn_laws.proofs.Turns.{one_turn}
use Rattle.dubp_turn_laws.proofs.laws.turns_have_one_answer.Goals as goal

pub returns : goal.returns
returns c = one_turn
