use Rattle.std.proofs.Common.{◌≡◌, take}
use Rattle.std.specs.HashSet.{contains}
use Rattle.std.specs.List.{list_any}
use Rattle.dubp_local.proofs.once.set_of.Given as goal

abbrev pub invariant-loop-value : goal.invariant-loop-value
invariant-loop-value g l = (k : _) → contains g.T.PartialEq.eq l.set k ≡ list_any (g.T.PartialEq.eq k) (take l.value-index l.values)
