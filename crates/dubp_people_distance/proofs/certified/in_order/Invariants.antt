use Rattle.std.proofs.Common.{◌≡◌, take}
use Rattle.std.specs.BTreeSet.{contains}
use Rattle.dubp_atoms.specs.Same.{Text}
use Rattle.dubp_chain.specs.Words.{names}
use Rattle.dubp_iindex.specs.Rows.{texts}
use Rattle.dubp_people_distance.proofs.certified.in_order.Given as goal

abbrev pub invariant-loop-i : goal.invariant-loop-i
invariant-loop-i l = (k : Text) → contains texts l.set k ≡ names (take l.i l.keys.keys) k
