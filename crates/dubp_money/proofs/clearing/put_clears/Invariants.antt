use Rattle.std.proofs.Common.{◌≡◌, ◌++◌, map, take}
use Rattle.dubp_money_steps.specs.Clearing.{clear_record}
use Rattle.dubp_money.proofs.clearing.put_clears.Given as goal

abbrev pub invariant-loop-entry : goal.invariant-loop-entry
invariant-loop-entry l = record { put : l.out.items ≡ l.fn.out.items ++ map clear_record (take l.entry-index l.taken) }
