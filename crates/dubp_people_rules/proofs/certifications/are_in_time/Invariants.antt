use Rattle.dubp_chain.specs.Chains.{Chain}
use Rattle.dubp_registry.specs.contracts.registry.RegistryTablesBlock.TheImpl as tables
use Rattle.dubp_people_rules.specs.Lines.{IsCertificationInTime}
use Rattle.dubp_lists.proofs.Rests.{Rests}
use Rattle.dubp_people_rules.proofs.certifications.are_in_time.Given as goal

abbrev pub invariant-loop-line : goal.invariant-loop-line
invariant-loop-line l = (c : Chain) → (tables.ghosts).at l.registry c → Rests (IsCertificationInTime c l.block l.next) l.lines l.line-index
