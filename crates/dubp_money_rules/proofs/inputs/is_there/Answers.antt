use Rattle.dubp_validity.specs.MoneyRules.{spent}
use Rattle.dubp_money_rules.specs.Spending.{at_hand}
use Rattle.dubp_money_rules.proofs.Each.{there_told}
use Rattle.dubp_money_rules.proofs.inputs.is_there.Goals as goal

pub returns : goal.returns
returns c = λ ch at sound numbered.
    there_told (spent (at_hand c.args.time ch c.args.block.now c.args.number) c.args.input.now) c.time_spent.result c.is_some.result c.is_some.ensures (c.time_spent.ensures ch at sound numbered)
