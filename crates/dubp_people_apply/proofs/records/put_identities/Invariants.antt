use Rattle.std.proofs.Common.{◌≡◌, ◌++◌, map, take}
use Rattle.dubp_validity.specs.declared.record.Record.TheVariants.{Create}
use Rattle.dubp_people_apply.proofs.records.put_identities.Given as goal

abbrev pub invariant-loop-line : goal.invariant-loop-line
invariant-loop-line l = l.out.items ≡ l.initial.out.items ++ map (λ line. Create line.key line.uid line.stamp) (take l.line-index l.lines)
