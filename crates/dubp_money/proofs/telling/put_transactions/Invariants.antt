use Rattle.std.proofs.Common.{◌≡◌, ℕ, ◌++◌, take}
use Rattle.std.specs.List.{flat_map}
use Rattle.dubp_money.specs.Transactions.{records_of}
use Rattle.dubp_money.proofs.telling.put_transactions.Given as goal

abbrev pub invariant-loop-i : goal.invariant-loop-i
invariant-loop-i l = record { put : (time : ℕ) → l.out.items ≡ l.fn.out.items ++ flat_map (records_of time l.fn.block.currency) (take l.i l.fn.block.transactions) }
