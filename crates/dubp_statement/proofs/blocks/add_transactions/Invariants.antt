use Rattle.std.proofs.Common.{◌≡◌, ℕ, fold, take, length}
use Rattle.dubp_chain.specs.Money.{hashes_in}
use Rattle.dubp_replay.specs.OfMoves.{Account, with_transaction}
use Rattle.dubp_statement.specs.Tallies.{IsTallyOf, moves_of}
use Rattle.dubp_statement.proofs.blocks.add_transactions.Given as goal

abbrev pub invariant-loop-tx : goal.invariant-loop-tx
invariant-loop-tx l = record {
  account : (time : ℕ) (a : Account) → l.hashes ≡ hashes_in l.fn.block → IsTallyOf a l.fn.tally → IsTallyOf (fold (with_transaction l.fn.cond l.fn.block.number time l.fn.block.currency) a (take (length l.yielded) l.fn.block.transactions)) l.tally;
  begins : take (length (moves_of l.fn.tally)) (moves_of l.tally) ≡ moves_of l.fn.tally;
}
