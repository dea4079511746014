use Rattle.std.proofs.Common.{◌≡◌, ℕ, ◌+◌, ◌^◌, ◌≤◌, length, take}
use Rattle.dubp_money.specs.Transactions.{all_outputs}
use Rattle.dubp_money.proofs.counting.count_outputs.Given as goal

abbrev pub invariant-loop-tx : goal.invariant-loop-tx
invariant-loop-tx l = record {
  counted : (time : ℕ) → l.fn.made + length (all_outputs time l.block.currency (take l.tx-index l.block.transactions)) ≤ 2 ^ 63 → l.count ≡ l.fn.made + length (all_outputs time l.block.currency (take l.tx-index l.block.transactions));
}
