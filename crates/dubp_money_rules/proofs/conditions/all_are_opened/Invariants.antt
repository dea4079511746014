use Rattle.std.proofs.Common.{take}
use Rattle.dubp_chain.specs.Chains.{Chain}
use Rattle.dubp_validity.specs.LocalRules.{InputsAreUnlockedOnce}
use Rattle.dubp_money.specs.contracts.sources.SourcesTablesBlock.TheImpl as tables
use Rattle.dubp_money_rules.specs.Spending.{AreOpened, EachAt, IsRead}
use Rattle.dubp_money_rules.proofs.conditions.all_are_opened.Given as goal

abbrev pub invariant-loop-i : goal.invariant-loop-i
invariant-loop-i l = (c : Chain) → (tables.ghosts).at l.sources c → IsRead c l.block l.time l.numbers.keys → InputsAreUnlockedOnce l.block → EachAt l.time c l.block (AreOpened l.time) (take l.i l.block.transactions)
