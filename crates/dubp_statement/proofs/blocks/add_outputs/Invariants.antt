use Rattle.std.proofs.Common.{◌≡◌, ℕ, fold, map, take, length}
use Rattle.std.specs.List.{enumerate_from}
use Rattle.dubp_chain.specs.Money.{output_source}
use Rattle.dubp_replay.specs.OfMoves.{Account, with_made}
use Rattle.dubp_statement.specs.Tallies.{IsTallyOf, moves_of}
use Rattle.dubp_statement.proofs.blocks.add_outputs.Given as goal

abbrev pub invariant-loop-output : goal.invariant-loop-output
invariant-loop-output l = record {
  place : l.place ≡ l.output-index;
  made : (time : ℕ) (a : Account) → IsTallyOf a l.fn.tally
      → IsTallyOf (fold (with_made l.fn.cond l.number) a (map (output_source time l.fn.hash) (enumerate_from 0 (take l.output-index l.output-items)))) l.tally;
  begins : take (length (moves_of l.fn.tally)) (moves_of l.tally) ≡ moves_of l.fn.tally;
}
