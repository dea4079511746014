use Rattle.std.proofs.Common.{◌∙◌, refl, sym, true≢false}
use Rattle.std.specs.Prelude.{position, slice_get, Some, ◌≡◌}
use Rattle.dubp_atoms.specs.Same.{same_text}
use Rattle.dubp_wot.proofs.Issuers.{if_there}
use Rattle.dubp_wot.proofs.Numbered.{number_is}
use Rattle.dubp_wot.proofs.known.KnownIssuers.number_member.Goals as goal

pub returns-in-Some-clause-number : goal.returns-in-Some-clause-number
returns-in-Some-clause-number g c =
    let keys = c.args.self.now.keys in
    let key = c.args.key.now in
    if_there (λ n. slice_get keys n ≡ Some key) (position (same_text key) keys) c.in-Some.number (sym c.number_of.ensures ∙ c.in-Some.is) (number_is keys key)

pub returns-in-Some-clause-member : goal.returns-in-Some-clause-member
returns-in-Some-clause-member g c = λ members pairs shown.
    let keys = c.args.self.now.keys in
    let key = c.args.key.now in
    let at = if_there (λ n. slice_get keys n ≡ Some key) (position (same_text key) keys) c.in-Some.number (sym c.number_of.ensures ∙ c.in-Some.is) (number_is keys key) in
    (λ _. (c.requires.known members pairs shown).are_members key (c.in-Some.number, at), λ _. refl)

pub returns-then-not-is_member-clause-member : goal.returns-then-not-is_member-clause-member
returns-then-not-is_member-clause-member g c = λ members pairs shown. (
  λ h. absurd (true≢false (sym h)),
  λ in'. absurd (true≢false (sym ((c.is_member.ensures members pairs shown).1 in') ∙ c.if-not-is_member.true)),
)

pub returns-clause-known : goal.returns-clause-known
returns-clause-known g c = λ members pairs shown.
    c.number.ensures.known members pairs ((c.is_member.ensures members pairs shown).0 c.if-not-is_member.false) (c.requires.known members pairs shown)

pub returns-clause-member : goal.returns-clause-member
returns-clause-member g c = λ members pairs shown. (λ _. (c.is_member.ensures members pairs shown).0 c.if-not-is_member.false, λ _. refl)
