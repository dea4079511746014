use Rattle.std.proofs.Common.{take}
use Rattle.dubp_chain.specs.Chains.{Chain}
use Rattle.dubp_money_rules.specs.Spending.{AreNumbered, EachAt, AreThere}
use Rattle.dubp_validity.specs.Rules.{IsSound}
use Rattle.dubp_money.specs.contracts.sources.SourcesTablesBlock.TheImpl as tables
use Rattle.dubp_money_rules.proofs.inputs.all_are_there.Given as goal

abbrev pub invariant-loop-i : goal.invariant-loop-i
invariant-loop-i l = (c : Chain) → (tables.ghosts).at l.sources c → IsSound c → AreNumbered l.numbers.keys l.block → EachAt l.time c l.block AreThere (take l.i l.block.transactions)
