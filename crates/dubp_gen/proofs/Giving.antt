-- Verdicts that are given one behind the other.
use Rattle.std.proofs.Common.{◌≡◌, ℕ, ◌+◌, ◌<◌, List, [], ◌∷◌, ◌++◌, take, get_or, length, refl, sym, ap, ◌∙◌}
use Rattle.std.proofs.lemmas.List.{append_assoc, take_more}
use Rattle.dubp_drafts.specs.Drafting.{Given}
use Rattle.dubp_verdict.specs.Verdicts.{Verdicts, verdict_of, with_verdict}
use Rattle.dubp_gen.specs.Generated.{with_given}

pub with_given-append : (v : Verdicts) (gs hs : List Given) → with_given v (gs ++ hs) ≡ with_given (with_given v gs) hs
with_given-append v [] hs = refl
with_given-append v (g ∷ gs) hs = with_given-append (with_verdict (verdict_of g.0 g.1 g.2) v) gs hs

-- so many of a list, and the one at hand
take_this : (gs : List Given) (i : ℕ) (g : Given) → i < length gs → g ≡ get_or gs i g → take i gs ++ g ∷ [] ≡ take (i + 1) gs
take_this gs i g within is = ap (λ y. take i gs ++ y ∷ []) is ∙ sym (take_more gs i g within)

-- one of them more was given, and noted
pub given_more : (v before after : Verdicts) (gs : List Given) (i : ℕ) (g : Given) → i < length gs → g ≡ get_or gs i g
    → before ≡ with_given v (take i gs) → after ≡ with_given before (g ∷ []) → after ≡ with_given v (take (i + 1) gs)
given_more v before after gs i g within is was new =
    new ∙ ap (λ w. with_given w (g ∷ [])) was ∙ sym (with_given-append v (take i gs) (g ∷ [])) ∙ ap (with_given v) (take_this gs i g within is)

pub noted_more : (noted before after gs : List Given) (i : ℕ) (g : Given) → i < length gs → g ≡ get_or gs i g
    → before ≡ noted ++ take i gs → after ≡ before ++ g ∷ [] → after ≡ noted ++ take (i + 1) gs
noted_more noted before after gs i g within is was new =
    new ∙ ap (λ l. l ++ g ∷ []) was ∙ append_assoc noted (take i gs) (g ∷ []) ∙ ap (λ l. noted ++ l) (take_this gs i g within is)
