use Rattle.std.proofs.Common.{◌≡◌, fold, map, take, length}
use Rattle.dubp_chain.specs.Money.{dividend_source}
use Rattle.dubp_replay.specs.OfMoves.{Account, with_made}
use Rattle.dubp_statement.specs.Tallies.{IsTallyOf, moves_of}
use Rattle.dubp_statement.proofs.blocks.add_dividends.Given as goal

abbrev pub invariant-loop-member : goal.invariant-loop-member
invariant-loop-member l = record {
  account : (a : Account) → IsTallyOf a l.fn.tally
      → IsTallyOf (fold (with_made l.fn.cond l.number) a (map (dividend_source l.fn.head.median_time l.number l.amount l.fn.head.unit_base) (take l.member-index l.members))) l.tally;
  begins : take (length (moves_of l.fn.tally)) (moves_of l.tally) ≡ moves_of l.fn.tally;
}
