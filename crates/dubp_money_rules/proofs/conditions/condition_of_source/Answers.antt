use Rattle.std.proofs.Common.{ap, refl, sym, ◌∙◌, ◌≡◌, ℕ, Some, None, option_map}
use Rattle.dubp_moving.specs.States.{states}
use Rattle.dubp_chain.specs.Money.{unspent}
use Rattle.dubp_validity.specs.MoneyRules.{spent}
use Rattle.dubp_sindex.specs.Accounts.{accounts}
use Rattle.dubp_sindex.specs.declared.rows.SourceRow.{SourceRow}
use Rattle.dubp_money.specs.OfMoneySteps.{sources_left}
use Rattle.dubp_money_rules.specs.Spending.{fitting_row}
use Rattle.dubp_money_rules.proofs.Found.{row_left}
use Rattle.dubp_money_rules.proofs.Opened.{told_source, found_source, no_source}
use Rattle.dubp_money_rules.proofs.conditions.condition_of_source.Goals as goal

abbrev told_row : SourceRow → ℕ × ℕ
told_row r = (r.made_at, r.account)

pub returns-in_ok-found-in-Some : goal.returns-in_ok-found-in-Some
returns-in_ok-found-in-Some c = λ ch at sound are.
    let texts = accounts c.args.sources.now.index in
    let input = c.args.input.now in
    let row : Some c.in-Some.row ≡ fitting_row input c.unspent.result = sym c.in-Some.is ∙ c.fitting_row.ensures in
    found_source texts ch input c.in-Some.row _ at.0.has are
    (ap (option_map told_row) row ∙ ap (λ r. option_map told_row (fitting_row input r)) (c.unspent.ensures (states (sources_left texts) ch) at.1) ∙ row_left texts told_row (told_source texts) (λ p. refl) ch sound input)
    c.in_ok-found-in-Some.ensures

pub returns-in-None : goal.returns-in-None
returns-in-None c = λ ch at sound are.
    let texts = accounts c.args.sources.now.index in
    let input = c.args.input.now in
    let row : None ≡ fitting_row input c.unspent.result = sym c.in-None.is ∙ c.fitting_row.ensures in
    no_source texts (spent (unspent ch) input)
    (ap (option_map told_row) row ∙ ap (λ r. option_map told_row (fitting_row input r)) (c.unspent.ensures (states (sources_left texts) ch) at.1) ∙ row_left texts told_row (told_source texts) (λ p. refl) ch sound input)
