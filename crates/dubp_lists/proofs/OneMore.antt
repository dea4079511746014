-- A list with one element more: who is named in it, and what is found.
use Rattle.std.proofs.Common.{◌≡◌, ℕ, ◌+◌, ◌<◌, Bool, true, false, cond, ◌||◌, List, [], ◌∷◌, ◌++◌, length, take, get_or, refl, sym, ap, ◌∙◌, subst, true≢false}
use Rattle.std.specs.List.{list_any}
use Rattle.std.proofs.lemmas.List.{take_more}
use Rattle.std.proofs.lemmas.List.Folds.{list_any-append}
use Rattle.dubp_chain.specs.OfAtoms.{Text, same_text}
use Rattle.dubp_chain.specs.OfBlock.{MemberLine}
use Rattle.dubp_chain.specs.Members.{is_of}
use Rattle.dubp_chain.proofs.OfAtoms.{same_text_is, same_text_own}

pub text_flip : (a b : Text) → same_text a b ≡ same_text b a
text_flip a b =
    elim (same_text a b) as (λ r. same_text a b ≡ r → r ≡ same_text b a) [
      | true ↦ λ e. sym (subst (λ (x : Text). same_text x a ≡ true) (same_text_is a b e) (same_text_own a))
      | false ↦ λ e. elim (same_text b a) as (λ r. same_text b a ≡ r → false ≡ r) [
        | true ↦ λ f. absurd (true≢false (sym (subst (λ (x : Text). same_text x b ≡ true) (same_text_is b a f) (same_text_own b)) ∙ e))
        | false ↦ λ f. refl
      ] refl
    ] refl

-- the list up to a place with the line at it
pub take_with : {X : Type 0} (xs : List X) (i : ℕ) (x : X) → i < length xs → x ≡ get_or xs i x → take (i + 1) xs ≡ take i xs ++ x ∷ []
take_with xs i x lt at = take_more xs i x lt ∙ ap (λ y. take i xs ++ y ∷ []) (sym at)

put_more : (a b t : Bool) → cond t true (a || b) ≡ (a || (b || (t || false)))
put_more true b true = refl
put_more true b false = refl
put_more false true true = refl
put_more false true false = refl
put_more false false true = refl
put_more false false false = refl

pub one_key_more : (lines : List MemberLine) (i : ℕ) (line : MemberLine) (first keys new : List Text) → i < length lines → line ≡ get_or lines i line
    → ((k : Text) → list_any (same_text k) keys ≡ (list_any (same_text k) first || list_any (is_of k) (take i lines)))
    → ((k : Text) → list_any (same_text k) new ≡ cond (same_text line.key k) true (list_any (same_text k) keys))
    → (k : Text) → list_any (same_text k) new ≡ (list_any (same_text k) first || list_any (is_of k) (take (i + 1) lines))
one_key_more lines i line first keys new lt at before has k =
    has k ∙ ap (λ (t : Bool). cond t true (list_any (same_text k) keys)) (text_flip line.key k)
    ∙ ap (λ (o : Bool). cond (same_text k line.key) true o) (before k)
    ∙ put_more (list_any (same_text k) first) (list_any (is_of k) (take i lines)) (same_text k line.key)
    ∙ sym (ap (λ (b : Bool). list_any (same_text k) first || b) (ap (list_any (is_of k)) (take_with lines i line lt at) ∙ list_any-append (is_of k) (take i lines) (line ∷ [])))

or_assoc : (a b t : Bool) → ((a || b) || t) ≡ (a || (b || (t || false)))
or_assoc true b t = refl
or_assoc false true t = refl
or_assoc false false true = refl
or_assoc false false false = refl

-- what was found in a list up to a place, and what is with the element there
pub any_more : {X : Type 0} (test : X → Bool) (xs : List X) (i : ℕ) (x : X) (first before new : Bool) → i < length xs → x ≡ get_or xs i x
    → before ≡ (first || list_any test (take i xs)) → new ≡ (before || test x) → new ≡ (first || list_any test (take (i + 1) xs))
any_more test xs i x first before new lt at e grown =
    grown ∙ ap (λ (o : Bool). o || test x) e ∙ or_assoc first (list_any test (take i xs)) (test x)
    ∙ sym (ap (λ (o : Bool). first || o) (ap (list_any test) (take_with xs i x lt at) ∙ list_any-append test (take i xs) (x ∷ [])))
