use Rattle.std.proofs.Common.{sym, ap, ◌∙◌, subst, option_map}
use Rattle.dubp_moving.specs.States.{states}
use Rattle.dubp_sindex.specs.Accounts.{accounts}
use Rattle.dubp_sindex.specs.Rows.{AreRows}
use Rattle.dubp_money.specs.OfMoneySteps.{sources_left}
use Rattle.dubp_money.proofs.OfMoneySteps.{sources_are_rows}
use Rattle.dubp_table_answers.specs.MoneyViews.{row_view}
use Rattle.dubp_table_answers.proofs.Accounts.{rows_left}
use Rattle.dubp_table_answers.proofs.Rows.{first_found, first_none}
use Rattle.dubp_table_answers.proofs.money_views.first_of.Goals as goal

pub returns-in-Some : goal.returns-in-Some
returns-in-Some c = λ chain at sound.
    let texts = accounts c.args.sources.now.index in
    let are = subst AreRows (sym (rows_left texts chain)) (sources_are_rows texts chain sound at.0.small) in
    c.view_at.ensures
    ∙ ap (λ o. option_map row_view o) (c.first_source.ensures (states (sources_left texts) chain) at.1 are)
    ∙ first_found texts chain at.0.has c.args.cond.now c.in-Some.account (sym c.find.ensures ∙ c.in-Some.is)

pub returns-in-None : goal.returns-in-None
returns-in-None c = λ chain at sound.
    let texts = accounts c.args.sources.now.index in
    first_none texts chain at.0.has c.args.cond.now (sym c.find.ensures ∙ c.in-None.is)
