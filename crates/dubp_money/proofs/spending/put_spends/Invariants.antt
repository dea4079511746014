use Rattle.std.proofs.Common.{◌≡◌, ◌++◌, map, take}
use Rattle.dubp_validity.specs.declared.record.Record.TheVariants.{Spend}
use Rattle.dubp_money.proofs.spending.put_spends.Given as goal

abbrev pub invariant-loop-input : goal.invariant-loop-input
invariant-loop-input l = record { put : l.out.items ≡ l.fn.out.items ++ map Spend (take l.input-index l.input-items) }
