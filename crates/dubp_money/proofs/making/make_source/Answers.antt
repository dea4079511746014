use Rattle.std.proofs.Common.{◌≡◌, true, [], ◌∷◌, ap, sym, ◌∙◌, subst}
use Rattle.std.specs.List.{list_any}
use Rattle.dubp_atoms.specs.Same.{same_text}
use Rattle.dubp_cond.specs.Conditions.{cond_text}
use Rattle.dubp_sindex.specs.Accounts.{accounts}
use Rattle.dubp_money_steps.specs.Left.{account_in}
use Rattle.dubp_money.specs.Index.{HasRows}
use Rattle.dubp_money.proofs.Made.{account_found, has_text, row_made}
use Rattle.dubp_money.proofs.making.make_source.Goals as goal

pub returns-clause-at : goal.returns-clause-at
returns-clause-at g c = λ rows are has new.
    let text = cond_text c.args.cond.now in
    let same : account_in (accounts c.make.new.self) text ≡ c.in_ok-account.account = ap (λ l. account_in l text) c.in_ok-make.ensures.accounts ∙ account_found (accounts c.spelled_account.new.self) text c.in_ok-account.account c.in_ok-account.ensures.number in
    row_made (HasRows c.make.new.self) rows c.args.source c.args.cond.now (accounts c.make.new.self) c.in_ok-account.account c.row_of.result same c.row_of.ensures
    (c.in_ok-make.ensures.at (rows ∷ []) [] (c.in_ok-account.ensures.at (rows ∷ []) has) are) new

pub returns-clause-has : goal.returns-clause-has
returns-clause-has g c =
    let text = cond_text c.args.cond.now in
    subst (λ l. list_any (same_text text) l ≡ true) (sym (c.in_ok-make.ensures.accounts ∙ c.in_ok-account.ensures.accounts)) (has_text (accounts c.args.index.now) text)

pub returns-in_err-make-clause-stays : goal.returns-in_err-make-clause-stays
returns-in_err-make-clause-stays g c = λ n s is. c.in_err-make.ensures.stays n s (c.in_ok-account.ensures.stays n s is)

pub returns-clause-stays : goal.returns-clause-stays
returns-clause-stays g c = λ n s is. c.in_ok-make.ensures.stays n s (c.in_ok-account.ensures.stays n s is)
