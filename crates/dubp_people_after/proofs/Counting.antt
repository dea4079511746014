-- The keys that a key has live certifications with, counted.
use Rattle.std.proofs.Common.{◌≡◌, ℕ, ◌+◌, Bool, true, false, cond, ◌&&◌, ◌||◌, List, [], ◌∷◌, Some, take, slice_get, get_or, filter, count_by, refl, sym, ap, subst, ◌∙◌}
use Rattle.std.specs.List.{AllByRecursion, IsDistinct, list_any}
use Rattle.std.proofs.lemmas.List.Sums.{length-filter}
use Rattle.std.proofs.lemmas.Option.{slice_get_within, slice_get-get_or, same_Some}
use Rattle.dubp_atoms.specs.Same.{Text, same_text}
use Rattle.dubp_block.specs.declared.block.Block.{Block}
use Rattle.dubp_chain.specs.Words.{names}
use Rattle.dubp_chain.specs.Chains.{Chain}
use Rattle.dubp_chain.specs.Live.{live, received, stock}
use Rattle.dubp_registry.proofs.OfLists.{and_left, and_right, any_in, in_any, in_filter, kept_in}
use Rattle.dubp_registry.proofs.OfLists.{same_text_is}
use Rattle.dubp_registry.proofs.OfSteps.{received_is_count, stock_is_count}
use Rattle.dubp_lists.proofs.OneMore.{any_more, text_flip}
use Rattle.dubp_people_after.specs.Near.{HasIssuers, HasReceivers, is_issuer, is_near_issuer, is_receiver}

-- ---- keys once, of which some are kept

all_kept : (P : Text → Type 0) (p : Text → Bool) (xs : List Text) → AllByRecursion P xs → AllByRecursion P (filter p xs)
all_kept P p [] all = tt
all_kept P p (x ∷ xs) all = elim (p x) as (λ t. AllByRecursion P (cond t (x ∷ filter p xs) (filter p xs))) [ true ↦ (all.0, all_kept P p xs all.1) | false ↦ all_kept P p xs all.1 ]

distinct_kept : (p : Text → Bool) (xs : List Text) → IsDistinct same_text xs → IsDistinct same_text (filter p xs)
unfolding IsDistinct
distinct_kept p [] once = tt
distinct_kept p (x ∷ xs) once =
    elim (p x) as (λ t. IsDistinct same_text (cond t (x ∷ filter p xs) (filter p xs))) [
      | true ↦ (all_kept (λ y. same_text x y ≡ false) p xs once.0, distinct_kept p xs once.1)
      | false ↦ distinct_kept p xs once.1
    ]

same_truth : (a b : Bool) → (a ≡ true → b ≡ true) → (b ≡ true → a ≡ true) → a ≡ b
same_truth true b f g = sym (f refl)
same_truth false true f g = g refl
same_truth false false f g = refl

names_kept : (p : Text → Bool) (xs : List Text) → ((a : Text) → p a ≡ true → names xs a ≡ true) → (a : Text) → names (filter p xs) a ≡ p a
names_kept p xs all a =
    same_truth (names (filter p xs) a) (p a)
    (λ named.
    let h = any_in (same_text a) (filter p xs) named in
    subst (λ y. p y ≡ true) (sym (same_text_is a h.0 h.2)) (in_filter p xs h.0 h.1).1)
    (λ passes.
    let h = any_in (same_text a) xs (all a passes) in
    in_any (same_text a) (filter p xs) h.0 (kept_in p xs h.0 h.1 (subst (λ y. p y ≡ true) (same_text_is a h.0 h.2) passes)) h.2)

module _ (c : Chain) (b : Block) (key : Text) (keys : List Text) (once : IsDistinct same_text keys) where
  pub issuers_counted : HasIssuers c b key (names keys) → count_by (is_issuer c b key) keys ≡ received (b ∷ c) key
  unfolding HasIssuers is_issuer
  issuers_counted all =
      let p : Text → Bool = λ a. live (b ∷ c) a key in
      sym (length-filter p keys) ∙ received_is_count (b ∷ c) key (filter p keys) (distinct_kept p keys once) (names_kept p keys all)

  pub receivers_counted : HasReceivers c b key (names keys) → count_by (is_receiver c b key) keys ≡ stock (b ∷ c) key
  unfolding HasReceivers is_receiver
  receivers_counted all =
      let p : Text → Bool = λ a. live (b ∷ c) key a in
      sym (length-filter p keys) ∙ stock_is_count (b ∷ c) key (filter p keys) (distinct_kept p keys once) (names_kept p keys all)

module _ (c : Chain) (b : Block) (key a : Text) (answer : Bool) where
  pub issuer_told : answer ≡ live (b ∷ c) a key → (t : Bool) → answer ≡ t → is_issuer c b key a ≡ t
  unfolding is_issuer
  issuer_told e t is = sym e ∙ is

  pub receiver_told : answer ≡ live (b ∷ c) key a → (t : Bool) → answer ≡ t → is_receiver c b key a ≡ t
  unfolding is_receiver
  receiver_told e t is = sym e ∙ is

-- ---- the issuers among some keys

module _ (c : Chain) (b : Block) (key : Text) (keys : List Text) where
  pub issuers_found : HasIssuers c b key (names keys) → (a : Text) → list_any (is_near_issuer c b key a) keys ≡ live (b ∷ c) a key
  unfolding HasIssuers is_issuer is_near_issuer
  issuers_found all a =
      let test : Text → Bool = λ near. same_text a near && live (b ∷ c) near key in
      same_truth (list_any test keys) (live (b ∷ c) a key)
      (λ found.
      let h = any_in test keys found in
      subst (λ y. live (b ∷ c) y key ≡ true) (sym (same_text_is a h.0 (and_left (same_text a h.0) (live (b ∷ c) h.0 key) h.2))) (and_right (same_text a h.0) (live (b ∷ c) h.0 key) h.2))
      (λ alive.
      let h = any_in (same_text a) keys (all a alive) in
      in_any test keys h.0 h.1 (both (same_text a h.0) (live (b ∷ c) h.0 key) h.2 (subst (λ y. live (b ∷ c) y key ≡ true) (same_text_is a h.0 h.2) alive)))
    where
      both : (s t : Bool) → s ≡ true → t ≡ true → (s && t) ≡ true
      both s t h k = cc

  module _ (i : ℕ) (x : Text) (at : slice_get keys i ≡ Some x) (a : Text) (first before : Bool)
      (so_far : before ≡ (first || list_any (is_near_issuer c b key a) (take i keys))) where
    one_more : (new : Bool) → new ≡ (before || is_near_issuer c b key a x) → new ≡ (first || list_any (is_near_issuer c b key a) (take (i + 1) keys))
    one_more new e =
        any_more (is_near_issuer c b key a) keys i x first before new (slice_get_within keys i x at)
        (sym (same_Some (get_or keys i x) x (sym (slice_get-get_or keys i x (slice_get_within keys i x at)) ∙ at))) so_far e

    pub one_put : (new : Bool) → is_issuer c b key x ≡ true → new ≡ cond (same_text x a) true before → new ≡ (first || list_any (is_near_issuer c b key a) (take (i + 1) keys))
    unfolding is_near_issuer
    one_put new issues put =
        one_more new (put ∙ ap (λ (t : Bool). cond t true before) (text_flip x a) ∙ turned (same_text a x) before ∙ ap (λ (t : Bool). before || (same_text a x && t)) (sym issues))
      where
        turned : (t s : Bool) → cond t true s ≡ (s || (t && true))
        turned true true = refl
        turned true false = refl
        turned false true = refl
        turned false false = refl

    pub one_passed : (new : Bool) → is_issuer c b key x ≡ false → new ≡ before → new ≡ (first || list_any (is_near_issuer c b key a) (take (i + 1) keys))
    unfolding is_near_issuer
    one_passed new passed same = one_more new (same ∙ kept (same_text a x) before ∙ ap (λ (t : Bool). before || (same_text a x && t)) (sym passed))
      where
        kept : (t s : Bool) → s ≡ (s || (t && false))
        kept true true = refl
        kept true false = refl
        kept false true = refl
        kept false false = refl
