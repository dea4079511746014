use Rattle.std.proofs.Common.{take}
use Rattle.std.specs.List.{AllByRecursion, enumerate_from}
use Rattle.dubp_chain.specs.Chains.{Chain}
use Rattle.dubp_validity.specs.MoneyRules.{IsOpened}
use Rattle.dubp_money.specs.contracts.sources.SourcesTablesBlock.TheImpl as tables
use Rattle.dubp_money_rules.specs.Spending.{AreUnlockedOnce, IsRead, at_hand}
use Rattle.dubp_money_rules.proofs.conditions.inputs_are_opened.Given as goal

abbrev pub invariant-loop-place : goal.invariant-loop-place
invariant-loop-place l = (c : Chain) → (tables.ghosts).at l.sources c → IsRead c l.block l.time l.numbers.keys → AreUnlockedOnce l.tx → AllByRecursion (IsOpened l.time l.tx (at_hand l.time c l.block l.number)) (enumerate_from 0 (take l.place l.tx.inputs))
