use Rattle.std.proofs.Common.{◌≡◌, ◌++◌, map, take, length}
use Rattle.dubp_validity.specs.declared.record.Record.TheVariants.{Expire}
use Rattle.dubp_people_apply.proofs.ended.put_expired.Given as goal

abbrev pub invariant-loop-key : goal.invariant-loop-key
invariant-loop-key l = record {
  put : l.out.items ++ map Expire l.set.keys ≡ l.initial.out.items ++ map Expire l.initial.set.keys;
  begins : take (length l.initial.out.items) l.out.items ≡ l.initial.out.items;
}

abbrev pub decreases-loop-key : goal.decreases-loop-key
decreases-loop-key l = length l.set.keys
