use Rattle.std.proofs.Common.{◌≡◌, take}
use Rattle.std.specs.List.{list_any}
use Rattle.dubp_sets.proofs.set_of.Given as goal

abbrev pub invariant-loop-value : goal.invariant-loop-value
invariant-loop-value g l = (k : _) → list_any (g.T.PartialEq.eq k) l.set.keys ≡ list_any (g.T.PartialEq.eq k) (take l.value-index l.values)
