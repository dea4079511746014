use Rattle.std.proofs.Common.{◌≡◌, ◌++◌, map, take, length}
use Rattle.dubp_validity.specs.declared.record.Record.TheVariants.{CertExpire}
use Rattle.dubp_people_apply.proofs.ended.put_pairs.Given as goal

abbrev pub invariant-loop-from : goal.invariant-loop-from
invariant-loop-from l = record {
  put : l.out.items ++ map (λ p. CertExpire p.0 p.1) l.set.keys ≡ l.initial.out.items ++ map (λ p. CertExpire p.0 p.1) l.initial.set.keys;
  begins : take (length l.initial.out.items) l.out.items ≡ l.initial.out.items;
}

abbrev pub decreases-loop-from : goal.decreases-loop-from
decreases-loop-from l = length l.set.keys
