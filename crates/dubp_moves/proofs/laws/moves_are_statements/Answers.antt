use Rattle.dubp_moves.proofs.Whole.{statements}
use Rattle.dubp_moves.proofs.laws.moves_are_statements.Goals as goal

pub returns : goal.returns
returns c = statements
