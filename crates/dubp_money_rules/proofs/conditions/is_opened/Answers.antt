use Rattle.std.proofs.Common.{◌↔◌, ◌≡◌, ◌≤◌, IsTrue, Some, None, option_copied, ap, refl, sym, subst, ◌∙◌, arith}
use Rattle.dubp_chain.specs.Money.{Source, unspent}
use Rattle.dubp_validity.specs.MoneyRules.{spent}
use Rattle.dubp_money_rules.specs.Spending.{IsSeenOpened, at_hand, made_before, output_named, seen_in, seen_output}
use Rattle.dubp_money_rules.proofs.Found.{told_first, told_then}
use Rattle.dubp_money_rules.proofs.Made.{seen_named}
use Rattle.dubp_money_rules.proofs.Opened.{opened_seen, found_early}
use Rattle.dubp_money_rules.proofs.conditions.is_opened.Goals as goal

pub returns-in-Some : goal.returns-in-Some
returns-in-Some c = λ ch at read once.
    let t = c.args.time in
    let input = c.args.input.now in
    let before = made_before t c.args.block.now c.args.number in
    let made = c.in-Some.made in
    let seen : Some (made, c.in-Some.cond) ≡ seen_in (spent (unspent ch) input) = sym c.in-Some.is ∙ c.in_ok-made.ensures ch at read.sound read.conditions in
    let early = found_early ch input made c.in-Some.cond seen in
    let not_before = read.not_before in
    let in_time : made ≤ t = omega (arith, early, not_before) in
    opened_seen t c.args.tx.now c.args.place (at_hand t ch c.args.block.now c.args.number) input c.is_true_at.result (Some (made, c.in-Some.cond))
    (told_first (λ (s : Source). (s.time, s.cond)) input (unspent ch) before (made, c.in-Some.cond) seen)
    (subst (λ u. IsTrue c.is_true_at.result ↔ IsSeenOpened t u c.args.tx.now.issuers (Some (made, c.in-Some.cond))) (c.unlocks_at-unlocks.ensures once)
    (subst (λ k. IsTrue c.is_true_at.result ↔ IsSeenOpened t c.unlocks_at-unlocks.result.now k (Some (made, c.in-Some.cond))) c.as_slice-issuers.ensures (c.is_true_at.ensures in_time)))

pub returns-in_ok-opened-in-None : goal.returns-in_ok-opened-in-None
returns-in_ok-opened-in-None c = λ ch at read once.
    let t = c.args.time in
    let input = c.args.input.now in
    let before = made_before t c.args.block.now c.args.number in
    let none : None ≡ seen_in (spent (unspent ch) input) = sym c.in-None.is ∙ c.in_ok-made.ensures ch at read.sound read.conditions in
    let keys = c.args.numbers.now.keys in
    let output : seen_output t input (option_copied c.output_named-output.result) ≡ seen_in (spent before input) =
    ap (seen_output t input) (c.output_named-output.ensures ∙ ap (λ txs. output_named keys txs c.args.number input.source) c.as_slice-txs.ensures)
    ∙ seen_named t c.args.block.now c.args.number input keys read.numbered in
    opened_seen t c.args.tx.now c.args.place (at_hand t ch c.args.block.now c.args.number) input c.in_ok-opened-in-None.opened (seen_in (spent before input))
    (told_then (λ (s : Source). (s.time, s.cond)) input (unspent ch) before (seen_in (spent before input)) none refl)
    (subst (λ u. IsTrue c.in_ok-opened-in-None.opened ↔ IsSeenOpened t u c.args.tx.now.issuers (seen_in (spent before input))) (c.unlocks_at-unlocks.ensures once)
    (subst (λ k. IsTrue c.in_ok-opened-in-None.opened ↔ IsSeenOpened t c.unlocks_at-unlocks.result.now k (seen_in (spent before input))) c.as_slice-issuers.ensures
    (subst (λ seen. IsTrue c.in_ok-opened-in-None.opened ↔ IsSeenOpened t c.unlocks_at-unlocks.result.now c.as_slice-issuers.result.now seen) output c.in_ok-opened-in-None.ensures)))
