use Rattle.std.proofs.Common.{sym, ◌∙◌}
use Rattle.dubp_chain.specs.Money.{Source, unspent}
use Rattle.dubp_money_rules.specs.Spending.{made_before}
use Rattle.dubp_money_rules.proofs.Found.{told_first, told_then}
use Rattle.dubp_money_rules.proofs.spending.time_spent.Goals as goal

pub returns-in-Some : goal.returns-in-Some
returns-in-Some c = λ ch at sound numbered.
    told_first (λ (s : Source). s.time) c.args.input.now (unspent ch) (made_before c.args.time c.args.block.now c.args.number) _ (sym c.in-Some.is ∙ c.time_of_source.ensures ch at sound)

pub returns-in-None : goal.returns-in-None
returns-in-None c = λ ch at sound numbered.
    told_then (λ (s : Source). s.time) c.args.input.now (unspent ch) (made_before c.args.time c.args.block.now c.args.number) _ (sym c.in-None.is ∙ c.time_of_source.ensures ch at sound) (c.time_made.ensures numbered)
