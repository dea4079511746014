use Rattle.std.proofs.Common.{◌≡◌, false, true≢false, sym, ◌∙◌}
use Rattle.dubp_atoms.specs.Same.{same_text}
use Rattle.dubp_chain.specs.Words.{each_once}
use Rattle.dubp_chain.specs.Money.{hashes_in}
use Rattle.dubp_money_rules.specs.Spending.{AreNumbered}
use Rattle.dubp_money_rules.proofs.Readable.{conditions_are_read}
use Rattle.dubp_money_rules.proofs.Firsts.{hashes_break, hashes_hold, twice_break, told_some, told_none}
use Rattle.dubp_money_rules.proofs.first.first_broken_of_money.Goals as goal

pub returns-then-not-branch : goal.returns-then-not-branch
returns-then-not-branch c = λ v ch at asked head are whole.
    hashes_break v ch c.args.block.now (λ new. true≢false (sym ((c.in_ok-transactions_are_new.ensures ch c.args.block.now at whole).1 new) ∙ c.if-not-branch.true))

pub returns-in_ok-found-in-Some : goal.returns-in_ok-found-in-Some
returns-in_ok-found-in-Some c = λ v ch at asked head are whole.
    let b = c.args.block.now in
    let numbered = told_some (each_once same_text (hashes_in b) ≡ false) (λ set. AreNumbered set.keys b) _ _ c.in-Some.is (c.in_ok-numbers.ensures b whole) in
    hashes_hold v ch b c.in_ok-found-in-Some.found ((c.in_ok-transactions_are_new.ensures ch b at whole).0 c.if-not-branch.false)
    (c.in_ok-found-in-Some.ensures v ch (record { at = at; asked = asked; head = head; conditions = conditions_are_read ch are; numbered = numbered }))

pub returns-in-None : goal.returns-in-None
returns-in-None c = λ v ch at asked head are whole.
    let b = c.args.block.now in
    twice_break v ch b (told_none (each_once same_text (hashes_in b) ≡ false) (λ set. AreNumbered set.keys b) _ c.in-None.is (c.in_ok-numbers.ensures b whole))
