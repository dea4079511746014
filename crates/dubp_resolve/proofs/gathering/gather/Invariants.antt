use Rattle.std.proofs.Common.{◌≡◌, take}
use Rattle.dubp_atoms.specs.declared.stamp.Stamp.{Stamp}
use Rattle.std.specs.HashSet.{contains}
use Rattle.dubp_atoms.specs.Same.{same_stamp}
use Rattle.dubp_resolve.specs.Choice.{is_among}
use Rattle.dubp_resolve.proofs.gathering.gather.Given as goal

abbrev pub invariant-loop-stamp : goal.invariant-loop-stamp
invariant-loop-stamp l = (s : Stamp) → contains same_stamp l.found s ≡ is_among (take l.stamp-index l.stamps) s
