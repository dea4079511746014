use Rattle.std.proofs.Common.{◌≡◌, ◌≤◌, take, count_by}
use Rattle.dubp_registry.specs.contracts.registry.RegistryTablesBlock.TheImpl as registry
use Rattle.indexmap.specs.IndexSet.{contains}
use Rattle.dubp_atoms.specs.Same.{same_text}
use Rattle.dubp_chain.specs.Chains.{Chain}
use Rattle.dubp_registry.specs.OfValidity.{IsSound}
use Rattle.dubp_people_views.specs.Counting.{is_new_member}
use Rattle.dubp_people_views.proofs.members.count_come.Given as goal

abbrev pub invariant-loop-i : goal.invariant-loop-i
invariant-loop-i l = record {
  small : l.count ≤ l.i;
  counted : (c : Chain) → (registry.ghosts).at l.registry c → IsSound c → l.count ≡ count_by (is_new_member c (contains same_text l.excluded)) (take l.i l.keys.keys);
}
