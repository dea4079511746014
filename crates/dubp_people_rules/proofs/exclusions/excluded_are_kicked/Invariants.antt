use Rattle.dubp_chain.specs.Chains.{Chain}
use Rattle.dubp_registry.specs.contracts.registry.RegistryTablesBlock.TheImpl as tables
use Rattle.dubp_people_rules.specs.Lines.{IsKicked}
use Rattle.dubp_lists.proofs.Rests.{Rests}
use Rattle.dubp_people_rules.proofs.exclusions.excluded_are_kicked.Given as goal

abbrev pub invariant-loop-key : goal.invariant-loop-key
invariant-loop-key l = (c : Chain) → (tables.ghosts).at l.registry c → Rests (IsKicked c) l.keys l.key-index
