use Rattle.dubp_chain.specs.Chains.{Chain}
use Rattle.dubp_registry.specs.contracts.registry.RegistryTablesBlock.TheImpl as tables
use Rattle.dubp_people_rules.specs.Lines.{IsRevocationSigned}
use Rattle.dubp_lists.proofs.Rests.{Rests}
use Rattle.dubp_people_rules.proofs.revocations.revocations_are_signed.Given as goal

abbrev pub invariant-loop-line : goal.invariant-loop-line
invariant-loop-line l = (c : Chain) → (tables.ghosts).at l.registry c → Rests (IsRevocationSigned l.verdicts c l.block) l.lines l.line-index
