use Rattle.dubp_registry.specs.contracts.registry.RegistryTablesBlock.TheImpl as registry
use Rattle.std.specs.BTreeSet.{contains, btree_set_len}
use Rattle.dubp_iindex.specs.Rows.{texts}
use Rattle.dubp_chain.specs.Chains.{Chain}
use Rattle.dubp_chain.specs.Live.{kick}
use Rattle.dubp_people_rules.proofs.Walk.{IsWalk}
use Rattle.dubp_people_rules.proofs.exclusions.kicked_are_among.Given as goal

abbrev pub invariant-loop-key : goal.invariant-loop-key
invariant-loop-key l = (c : Chain) → (registry.ghosts).at l.registry c → IsWalk (contains texts l.initial.set) (kick c) l.after (contains texts l.set)

abbrev pub decreases-loop-key : goal.decreases-loop-key
decreases-loop-key l = btree_set_len l.set
