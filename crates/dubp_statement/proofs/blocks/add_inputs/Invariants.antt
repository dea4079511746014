use Rattle.std.proofs.Common.{◌≡◌, fold, take, length}
use Rattle.dubp_replay.specs.OfMoves.{Account, Spent, with_gone}
use Rattle.dubp_statement.specs.Tallies.{IsTallyOf, moves_of}
use Rattle.dubp_statement.proofs.blocks.add_inputs.Given as goal

abbrev pub invariant-loop-input : goal.invariant-loop-input
invariant-loop-input l = record {
  account : (a : Account) → IsTallyOf a l.fn.tally → IsTallyOf (fold (with_gone Spent l.number) a (take l.input-index l.inputs)) l.tally;
  begins : take (length (moves_of l.fn.tally)) (moves_of l.tally) ≡ moves_of l.fn.tally;
}
