use Rattle.std.proofs.Common.{◌≡◌, take}
use Rattle.std.specs.BTreeSet.{contains}
use Rattle.dubp_atoms.specs.Same.{Text}
use Rattle.dubp_iindex.specs.Rows.{texts}
use Rattle.dubp_chain.specs.Words.{names}
use Rattle.dubp_people_rules.proofs.exclusions.set_of.Given as goal

abbrev pub invariant-loop-key : goal.invariant-loop-key
invariant-loop-key l = (k : Text) → contains texts l.set k ≡ names (take l.key-index l.keys) k
