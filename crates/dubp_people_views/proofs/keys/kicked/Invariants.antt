use Rattle.std.proofs.Common.{◌≡◌}
use Rattle.dubp_people_views.specs.OfRegistry.registry_tables_block as registry
use Rattle.dubp_chain.specs.Chains.{Chain}
use Rattle.dubp_chain.specs.Live.{kick}
use Rattle.dubp_validity.specs.Rules.{IsSound}
use Rattle.dubp_wot.specs.Search.{up_to}
use Rattle.dubp_people_views.proofs.keys.kicked.Given as goal

abbrev pub invariant-kicked : goal.invariant-kicked
invariant-kicked l = (c : Chain) → (registry.ghosts).at l.registry c → IsSound c → l.keys.items ≡ up_to l.after (kick c)
