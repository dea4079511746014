use Rattle.std.proofs.Common.{sym, ◌∙◌}
use Rattle.dubp_sindex.specs.Accounts.{accounts}
use Rattle.dubp_moving.specs.States.{states}
use Rattle.dubp_money.specs.OfMoneySteps.{sources_left}
use Rattle.dubp_table_answers.proofs.Accounts.{units_found, units_none}
use Rattle.dubp_table_answers.proofs.money_views.units_of.Goals as goal

pub returns-in-Some : goal.returns-in-Some
returns-in-Some c = λ chain at.
    let texts = accounts c.args.sources.now.index in
    c.balance.ensures (states (sources_left texts) chain) at.1 ∙ units_found texts chain at.0.has c.args.cond.now c.in-Some.account (sym c.find.ensures ∙ c.in-Some.is)

pub returns-in-None : goal.returns-in-None
returns-in-None c = λ chain at.
    let texts = accounts c.args.sources.now.index in
    units_none texts chain at.0.has c.args.cond.now (sym c.find.ensures ∙ c.in-None.is)
