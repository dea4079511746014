use Rattle.std.proofs.Common.{ap, sym, ◌∙◌}
use Rattle.std.specs.List.{position_or_len}
use Rattle.dubp_atoms.specs.Same.{same_text}
use Rattle.dubp_sindex.specs.Numbering.{number_of, with_text}
use Rattle.dubp_sindex.proofs.Sources.{same_text_own}
use Rattle.dubp_sindex.proofs.Texts.{with_text-there, number_is}
use Rattle.dubp_sindex.proofs.accounts.Accounts.add.Goals as goal

pub returns-in-Some-clause-number : goal.returns-in-Some-clause-number
returns-in-Some-clause-number c = sym c.find.ensures ∙ c.in-Some.is

pub returns-in-Some-clause-added : goal.returns-in-Some-clause-added
returns-in-Some-clause-added c = with_text-there c.args.self.now c.args.text.now c.in-Some.number (sym c.find.ensures ∙ c.in-Some.is)

pub returns-clause-number : goal.returns-clause-number
returns-clause-number c =
    let text = c.args.text.now in
    let texts = c.args.self.now in
    let number = c.in_ok-number.number in
    let view = c.self.view_is in
    let copied = c.in_ok-text.ensures in
    let put = c.in_ok-number.ensures.keys ∙ (λ i. with_text (view i) (copied i)) in
    let place = c.in_ok-number.ensures.place ∙ (λ i. position_or_len (same_text (copied i)) (view i)) in
    ap (λ now. number_of now text) put ∙ number_is texts text number place (same_text_own text)

pub returns-clause-added : goal.returns-clause-added
returns-clause-added c = c.in_ok-number.ensures.keys ∙ (λ i. with_text (c.self.view_is i) (c.in_ok-text.ensures i))
