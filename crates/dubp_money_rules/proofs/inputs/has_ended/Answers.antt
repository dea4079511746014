use Rattle.dubp_validity.specs.MoneyRules.{spent}
use Rattle.dubp_money_rules.specs.Spending.{at_hand}
use Rattle.dubp_money_rules.proofs.Each.{ended_told}
use Rattle.dubp_money_rules.proofs.inputs.has_ended.Goals as goal

pub returns : goal.returns
returns c = λ ch at sound numbered.
    ended_told c.args.time c.args.locktime (spent (at_hand c.args.time ch c.args.block.now c.args.number) c.args.input.now) c.time_spent-made.result c.has_waited.result
    (c.time_spent-made.ensures ch at sound numbered) c.has_waited.ensures
