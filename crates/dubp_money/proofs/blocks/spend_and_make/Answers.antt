use Rattle.std.proofs.Common.{◌≡◌, ◌+◌, ◌^◌, ◌≤◌, ◌∷◌, true, List, length, ◌∙◌, subst, ap, arith}
use Rattle.std.specs.List.{list_any}
use Rattle.dubp_atoms.specs.Same.{same_text}
use Rattle.dubp_cond.specs.Conditions.{cond_text}
use Rattle.dubp_chain.specs.Heads.{time_of}
use Rattle.dubp_chain.specs.Money.{Source, made_sources}
use Rattle.dubp_lists.proofs.Elements.{all_append}
use Rattle.dubp_sindex.specs.Accounts.{accounts}
use Rattle.dubp_sindex.specs.Rows.{Entry, AreRows}
use Rattle.dubp_money_steps.specs.Steps.{outputs_of, dividends_of}
use Rattle.dubp_money_steps.specs.Left.{HasTexts}
use Rattle.dubp_money.specs.Index.{HasRows}
use Rattle.dubp_money.specs.Making.{CanFollow, with_made}
use Rattle.dubp_money.specs.Transactions.{all_outputs, all_written}
use Rattle.dubp_money.proofs.Growing.{has_more, grows_on}
use Rattle.dubp_money.proofs.BlockRows.{can_transact, block_rows, fits_next}
use Rattle.dubp_money.proofs.blocks.spend_and_make.Goals as goal

pub returns-clause-at : goal.returns-clause-at
returns-clause-at g c = λ chain w fits has.
    let b = c.args.block.now in
    let texts = accounts c.args.index.now in
    let texts' = accounts c.write_transactions.new.index in
    let texts'' = accounts c.pay.new.index in
    let n = length (made_sources chain) in
    let places : c.args.made + length (all_outputs c.args.time b.currency b.transactions) ≤ 2 ^ 63 =
    omega (arith, (can_transact chain b w.sound c.requires.block w.short texts fits).few, w.behind, ap (λ t. length (all_outputs t b.currency b.transactions)) w.at_time) in
    block_rows chain b w.sound c.requires.block w.short texts fits (HasRows c.args.index.now) (HasRows c.write_transactions.new.index) (HasRows c.pay.new.index) texts' texts''
    c.in_ok-behind.ensures.texts c.in_ok-pay.ensures.texts c.in_ok-behind.behind
    (subst (λ t. HasTexts texts' (all_outputs t b.currency b.transactions)) w.at_time c.in_ok-behind.ensures.has)
    (c.in_ok-behind.ensures.order places ∙ ap (λ m. m + length (all_outputs c.args.time b.currency b.transactions)) w.behind ∙ ap (λ t. n + length (all_outputs t b.currency b.transactions)) w.at_time)
    (subst (λ m. (rows : List Entry) → AreRows rows → CanFollow rows m (outputs_of chain b) → HasRows c.args.index.now rows → HasRows c.write_transactions.new.index (all_written texts' (time_of (b ∷ chain)) b.currency m rows b.transactions).1) w.behind
    (subst (λ t. (rows : List Entry) → AreRows rows → CanFollow rows c.args.made (all_outputs t b.currency b.transactions) → HasRows c.args.index.now rows → HasRows c.write_transactions.new.index (all_written texts' t b.currency c.args.made rows b.transactions).1) w.at_time
    c.in_ok-behind.ensures.at))
    (subst (λ ds. (rows : List Entry) → AreRows rows → CanFollow rows c.in_ok-behind.behind ds → HasRows c.write_transactions.new.index rows → HasRows c.pay.new.index (with_made texts'' rows c.in_ok-behind.behind ds)) w.pays c.in_ok-pay.ensures.at)
    has

pub returns-clause-fits : goal.returns-clause-fits
returns-clause-fits g c = λ chain w fits.
    let b = c.args.block.now in
    let texts = accounts c.args.index.now in
    let texts' = accounts c.write_transactions.new.index in
    let texts'' = accounts c.pay.new.index in
    let outputs : HasTexts texts' (outputs_of chain b) = subst (λ t. HasTexts texts' (all_outputs t b.currency b.transactions)) w.at_time c.in_ok-behind.ensures.has in
    let dividends : HasTexts texts'' (dividends_of chain b) = subst (HasTexts texts'') w.pays c.in_ok-pay.ensures.has in
    fits_next texts texts'' (grows_on texts texts' texts'' c.in_ok-behind.ensures.texts c.in_ok-pay.ensures.texts) chain b w.sound c.requires.block w.short fits
    (all_append (λ (s : Source). list_any (same_text (cond_text s.cond)) texts'' ≡ true) (outputs_of chain b) (dividends_of chain b) (has_more texts' texts'' c.in_ok-pay.ensures.texts (outputs_of chain b) outputs) dividends)

pub returns-clause-texts : goal.returns-clause-texts
returns-clause-texts g c = grows_on (accounts c.args.index.now) (accounts c.write_transactions.new.index) (accounts c.pay.new.index) c.in_ok-behind.ensures.texts c.in_ok-pay.ensures.texts

pub returns-in_err-pay-clause-stays : goal.returns-in_err-pay-clause-stays
returns-in_err-pay-clause-stays g c = λ n s is. c.in_err-pay.ensures.stays n s (c.in_ok-behind.ensures.stays n s is)

pub returns-clause-stays : goal.returns-clause-stays
returns-clause-stays g c = λ n s is. c.in_ok-pay.ensures.stays n s (c.in_ok-behind.ensures.stays n s is)
