use Rattle.std.proofs.Common.{◌≡◌, ◌++◌, take, length}
use Rattle.std.specs.List.{flat_map}
use Rattle.dubp_chain.specs.Chains.{Chain}
use Rattle.dubp_chain.specs.Money.{hashes_in}
use Rattle.dubp_validity.specs.Records.{transaction_records}
use Rattle.dubp_rows.proofs.money.put_transactions.Given as goal

abbrev pub invariant-loop-tx : goal.invariant-loop-tx
invariant-loop-tx l = record {
  put : (c : Chain) → l.hashes ≡ hashes_in l.fn.block → l.out.items ≡ l.fn.out.items ++ flat_map (transaction_records c l.fn.block) (take (length l.yielded) l.fn.block.transactions);
  begins : take (length l.fn.out.items) l.out.items ≡ l.fn.out.items;
}
