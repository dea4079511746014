use Rattle.std.proofs.Common.{◌≡◌, take}
use Rattle.dubp_block.proofs.copying.copy_transactions.Given as goal

abbrev pub invariant-loop-tx : goal.invariant-loop-tx
invariant-loop-tx l = l.copied.items ≡ take l.tx-index l.transactions
