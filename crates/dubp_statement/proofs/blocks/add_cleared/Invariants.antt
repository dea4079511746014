use Rattle.std.proofs.Common.{◌≡◌, List, fold, map, take, length}
use Rattle.dubp_chain.specs.Money.{Source}
use Rattle.dubp_validity.specs.Records.{input_of}
use Rattle.dubp_validity.specs.declared.record.Record.TheVariants.{Clear}
use Rattle.dubp_replay.specs.OfMoves.{Account, with_cleared}
use Rattle.dubp_statement.specs.Tallies.{IsTallyOf, moves_of}
use Rattle.dubp_statement.proofs.blocks.add_cleared.Given as goal

abbrev pub invariant-loop-item : goal.invariant-loop-item
invariant-loop-item l = record {
  account : (sources : List Source) (a : Account) → l.cleared ≡ map (λ s. Clear (input_of s)) sources → IsTallyOf a l.fn.tally
      → IsTallyOf (fold (with_cleared l.number) a (take l.item-index sources)) l.tally;
  begins : take (length (moves_of l.fn.tally)) (moves_of l.tally) ≡ moves_of l.fn.tally;
}
