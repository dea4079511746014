use Rattle.dubp_money_rules.proofs.Told.{judged}
use Rattle.dubp_money_rules.proofs.conditions.conditions_are_true.Goals as goal

pub returns : goal.returns
returns c = λ ch at asked conditions numbered.
    judged ch c.args.block.now c.args.next.now c.args.numbers.now.keys asked conditions numbered _ (λ read once. c.in_ok-opened.ensures ch at read once)
