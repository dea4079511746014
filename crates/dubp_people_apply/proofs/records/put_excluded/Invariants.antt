use Rattle.std.proofs.Common.{◌≡◌, ◌++◌, map, take}
use Rattle.dubp_validity.specs.declared.record.Record.TheVariants.{Exit}
use Rattle.dubp_people_apply.proofs.records.put_excluded.Given as goal

abbrev pub invariant-loop-key : goal.invariant-loop-key
invariant-loop-key l = l.out.items ≡ l.initial.out.items ++ map Exit (take l.key-index l.keys)
