-- The next of some keys: of those that either of two tests passes, of those that a walk does not pass over, and of the keys of a set.
use Rattle.std.proofs.Common.{◌≡◌, ◌+◌, ◌≤◌, ◌⊎◌, inl, inr, Bool, true, false, cond, ◌||◌, IsTrue, List, [], ◌∷◌, Option, Some, None, filter, length, refl, sym, ap, subst, ◌∙◌, true≢false, arith}
use Rattle.std.specs.List.{AllByRecursion, list_any}
use Rattle.std.specs.List.Sorted.{IsStrictlySortedBy}
use Rattle.std.specs.Option.{IfSome, IfNone}
use Rattle.std.specs.BTreeMap.{is_at}
use Rattle.std.specs.BTreeMap.Range.{IsFromStart, IsLeBy}
use Rattle.std.specs.declared.ops.Bound.TheVariants.{Excluded, Unbounded}
use Rattle.std.specs.Ordering.{is_lt, is_gt, ordering_reverse}
use Rattle.std.specs.declared.cmp.Ordering.{Ordering}
use Rattle.std.specs.declared.cmp.Ordering.TheVariants.{Less, Equal, Greater}
use Rattle.std.specs.Cmp.Lexicographic.{nat_list_cmp_total}
use Rattle.std.proofs.lemmas.List.Sums.{length-filter, count_by-le-length}
use Rattle.std.proofs.lemmas.Map.Keys.{sorted_head, sorted_tail}
use Rattle.dubp_atoms.specs.Same.{Text, same_text}
use Rattle.dubp_iindex.specs.Rows.{texts}
use Rattle.dubp_iindex.specs.Order.{less, is_above, IsNext, AreNext}
use Rattle.dubp_lists.proofs.Elements.{or_true, IsIn, any_in, in_all, in_any}
use Rattle.dubp_lists.proofs.InOrder.{same_text_is, same_text_own}
use Rattle.dubp_wot.proofs.KeyOrder.{less-back, less-own, less-trans, less-meets, less-under, above-up}
use Rattle.dubp_people_distance.proofs.Sets.{tied}

pub either : (s t : Bool) → (s || t) ≡ true → (s ≡ true) ⊎ (t ≡ true)
either true t e = inl refl
either false t e = inr e

-- what is not above is not below, the other way round
pub not_less : (k q : Text) → is_gt (texts k q) ≡ false → less q k ≡ false
not_less k q e = ap is_lt (nat_list_cmp_total.antisymm q k) ∙ by (texts k q) e
  where
    by : (o : Ordering) → is_gt o ≡ false → is_lt (ordering_reverse o) ≡ false
    by Less e = refl
    by Equal e = refl
    by Greater e = absurd (true≢false e)

-- ---- the same keys

pub next_same : (P Q : Text → Type 0) → ((k : Text) → P k → Q k) → ((k : Text) → Q k → P k) → (after answer : Option Text) → IsNext P after answer → IsNext Q after answer
next_same P Q to from after None none = λ a q. none a (from a q)
next_same P Q to from after (Some k) some = (to k some.0, some.1, λ a q above. some.2 a (from a q) above)

-- all of some keys are all of the same keys said otherwise
pub all_same : (P Q : Text → Type 0) → ((k : Text) → P k → Q k) → ((k : Text) → Q k → P k) → (after : Option Text) (keys : List Text) → AreNext P after keys → AreNext Q after keys
all_same P Q f g after [] none = next_same P Q f g after None none
all_same P Q f g after (k ∷ keys) is = (next_same P Q f g after (Some k) is.0, all_same P Q f g (Some k) keys is.1)

-- ---- all keys of a list in order

below_in : (k a : Text) (keys : List Text) → AllByRecursion (λ y. texts k y ≡ Less) keys → IsIn a keys → less k a ≡ true
below_in k a keys all there = ap is_lt (in_all (λ y. texts k y ≡ Less) keys all a there)

-- each key of the list has P and stands above `after`, and each such key is one of the list
all_listed : (P : Text → Type 0) (after : Option Text) (keys : List Text) → IsStrictlySortedBy texts keys → ((a : Text) → IsIn a keys → P a)
    → ((a : Text) → IsIn a keys → is_above after a ≡ true) → ((a : Text) → P a → is_above after a ≡ true → IsIn a keys) → AreNext P after keys
all_listed P after [] order has behind all = λ a p. elim (is_above after a) as (λ t. is_above after a ≡ t → t ≡ false) [
  | true ↦ λ e. absurd (all a p e)
  | false ↦ λ _. refl
] refl
all_listed P after (k ∷ keys) order has behind all =
    let later = sorted_head texts k keys order in (
      (
        has k (inl refl),
        behind k (inl refl),
        λ a p e. elim (all a p e) [
          | inl same ↦ subst (λ z. less z k ≡ false) (sym same) (less-own k)
          | inr there ↦ less-back k a (below_in k a keys later there)
        ],
      ),
      all_listed P (Some k) keys (sorted_tail texts k keys order) (λ a there. has a (inr there)) (λ a there. below_in k a keys later there)
          (λ a p e. elim (all a p (above-up after k a (behind k (inl refl)) e)) [
            | inl same ↦ absurd (true≢false (sym e ∙ subst (λ z. less k z ≡ false) (sym same) (less-own k)))
            | inr there ↦ there
          ]),
    )

-- the keys of a set, as it keeps them
pub all_of_set : (keys : List Text) → IsStrictlySortedBy texts keys → AreNext (λ k. IsTrue (list_any (is_at (texts k)) keys)) None keys
all_of_set keys order =
    all_listed (λ k. IsTrue (list_any (is_at (texts k)) keys)) None keys order
    (λ a there. in_any (is_at (texts a)) keys a there (sym (tied a a) ∙ same_text_own a))
    (λ a there. refl)
    (λ a p e.
    let h = any_in (is_at (texts a)) keys p in
    subst (λ z. IsIn z keys) (same_text_is h.0 a (tied a h.0 ∙ h.2)) h.1)

-- ---- the first of a set from a bound on

module _ (has : Text → Bool) (after : Option Text) (From : Text → Type 0) (to : (q : Text) → is_above after q ≡ true → From q) (back : (q : Text) → From q → is_above after q ≡ true) where
  pub next_from : (answer : Option Text) → IfSome answer (λ k. IsTrue (has k) × From k) → ((q : Text) → From q → IsTrue (has q) → IfSome answer (λ k. IsLeBy texts k q))
      → IfNone answer ((q : Text) → From q → has q ≡ false) → IsNext (λ k. IsTrue (has k)) after answer
  next_from None found least none = λ a there. elim (is_above after a) as (λ t. is_above after a ≡ t → t ≡ false) [
    | true ↦ λ e. absurd (true≢false (sym there ∙ none a (to a e)))
    | false ↦ λ _. refl
  ] refl
  next_from (Some k) found least none = (found.0, back k found.1, λ a there e. not_less k a (least a (to a e) there))

is_less : (o : Ordering) → is_lt o ≡ true → o ≡ Less
is_less Less e = refl
is_less Equal e = absurd (true≢false (sym e))
is_less Greater e = absurd (true≢false (sym e))

module _ (has : Text → Bool) (answer : Option Text) where
  pub first_next : IfSome answer (λ k. IsTrue (has k) × IsFromStart texts Unbounded k) → ((q : Text) → IsFromStart texts Unbounded q → IsTrue (has q) → IfSome answer (λ k. IsLeBy texts k q))
      → IfNone answer ((q : Text) → IsFromStart texts Unbounded q → has q ≡ false) → IsNext (λ k. IsTrue (has k)) None answer
  first_next found least none = next_from has None (λ q. IsFromStart texts Unbounded q) (λ q _. tt) (λ q _. refl) answer found least none

  pub behind_next : (key : Text) → IfSome answer (λ k. IsTrue (has k) × IsFromStart texts (Excluded key) k) → ((q : Text) → IsFromStart texts (Excluded key) q → IsTrue (has q) → IfSome answer (λ k. IsLeBy texts k q))
      → IfNone answer ((q : Text) → IsFromStart texts (Excluded key) q → has q ≡ false) → IsNext (λ k. IsTrue (has k)) (Some key) answer
  behind_next key found least none =
      next_from has (Some key) (λ q. IsFromStart texts (Excluded key) q) (λ q e. is_less (texts key q) e) (λ q e. ap is_lt e) answer found least none

-- ---- the keys of either test

module _ (p q : Text → Bool) (after : Option Text) where
  abbrev Has : Text → Type 0
  Has k = IsTrue (p k || q k)

  pub other_alone : (answer : Option Text) → IsNext (λ k. IsTrue (p k)) after None → IsNext (λ k. IsTrue (q k)) after answer → IsNext (λ k. IsTrue (p k || q k)) after answer
  other_alone None none next = λ a h. elim (either (p a) (q a) h) [ inl e ↦ none a e | inr e ↦ next a e ]
  other_alone (Some k) none next = (
    or_true (p k) (q k) (inr next.0),
    next.1,
    λ a h above. elim (either (p a) (q a) h) [ inl e ↦ absurd (true≢false (sym above ∙ none a e)) | inr e ↦ next.2 a e above ],
  )

  pub one_alone : (answer : Option Text) → IsNext (λ k. IsTrue (p k)) after answer → IsNext (λ k. IsTrue (q k)) after None → IsNext (λ k. IsTrue (p k || q k)) after answer
  one_alone None next none = λ a h. elim (either (p a) (q a) h) [ inl e ↦ next a e | inr e ↦ none a e ]
  one_alone (Some k) next none = (
    or_true (p k) (q k) (inl next.0),
    next.1,
    λ a h above. elim (either (p a) (q a) h) [ inl e ↦ next.2 a e above | inr e ↦ absurd (true≢false (sym above ∙ none a e)) ],
  )

  module _ (k j : Text) (first : IsNext (λ k. IsTrue (p k)) after (Some k)) (second : IsNext (λ k. IsTrue (q k)) after (Some j)) where
    pub other_lesser : less j k ≡ true → IsNext (λ k. IsTrue (p k || q k)) after (Some j)
    other_lesser lower = (
      or_true (p j) (q j) (inr second.0),
      second.1,
      λ a h above. elim (either (p a) (q a) h) [ inl e ↦ less-under a j k lower (first.2 a e above) | inr e ↦ second.2 a e above ],
    )

    pub one_lesser : less j k ≡ false → IsNext (λ k. IsTrue (p k || q k)) after (Some k)
    one_lesser lower = (
      or_true (p k) (q k) (inl first.0),
      first.1,
      λ a h above. elim (either (p a) (q a) h) [ inl e ↦ first.2 a e above | inr e ↦ below a (second.2 a e above) ],
    )
      where
        below : (a : Text) → less a j ≡ false → less a k ≡ false
        below a apart = elim (less a k) as (λ t. less a k ≡ t → t ≡ false) [
          | true ↦ λ is. elim (less j a) as (λ t. less j a ≡ t → true ≡ false) [
            | true ↦ λ up. sym (less-trans j a k up is) ∙ lower
            | false ↦ λ up. absurd (true≢false (sym is ∙ subst (λ z. less z k ≡ false) (less-meets j a up apart) lower))
          ] refl
          | false ↦ λ _. refl
        ] refl

-- ---- a walk over keys with P that passes over those without Q

module _ (P Q : Text → Type 0) (among : (k : Text) → Q k → P k) (after : Option Text) where
  pub next_none : IsNext P after None → IsNext Q after None
  next_none none = λ a q. none a (among a q)

  module _ (k : Text) (next : IsNext P after (Some k)) where
    pub next_kept : Q k → IsNext Q after (Some k)
    next_kept q = (q, next.1, λ a r above. next.2 a (among a r) above)

    pub next_passed : (Q k → ⊥) → (answer : Option Text) → IsNext Q (Some k) answer → IsNext Q after answer
    next_passed out None none = λ a q. elim (is_above after a) as (λ t. is_above after a ≡ t → t ≡ false) [
      | true ↦ λ above. absurd (out (subst Q (sym (less-meets k a (none a q) (next.2 a (among a q) above))) q))
      | false ↦ λ _. refl
    ] refl
    next_passed out (Some j) some = (
      some.0,
      above-up after k j next.1 some.1,
      λ a q above. elim (less k a) as (λ t. less k a ≡ t → less a j ≡ false) [
        | true ↦ λ up. some.2 a q up
        | false ↦ λ up. absurd (out (subst Q (sym (less-meets k a up (next.2 a (among a q) above))) q))
      ] refl,
    )

-- ---- each key that is passed over is one of a list, and there are no more of them above

kept_longer : {X : Type 0} (t : Bool) (x : X) (xs : List X) → length xs ≤ length (cond t (x ∷ xs) xs)
kept_longer true x xs = omega arith
kept_longer false x xs = omega arith

module _ (p q : Text → Bool) (more : (a : Text) → p a ≡ true → q a ≡ true) where
  fewer : (xs : List Text) → length (filter p xs) ≤ length (filter q xs)
  fewer [] = omega arith
  fewer (x ∷ xs) =
      let rest = fewer xs in
      elim (p x) as (λ t. p x ≡ t → length (cond t (x ∷ filter p xs) (filter p xs)) ≤ length (cond (q x) (x ∷ filter q xs) (filter q xs))) [
        | true ↦ λ e. subst (λ t. length (x ∷ filter p xs) ≤ length (cond t (x ∷ filter q xs) (filter q xs))) (sym (more x e)) (omega (arith, rest))
        | false ↦ λ _. let longer = kept_longer (q x) x (filter q xs) in omega (arith, rest, longer)
      ] refl

  fewer_by_one : (k : Text) → q k ≡ true → p k ≡ false → (xs : List Text) → IsIn k xs → length (filter p xs) + 1 ≤ length (filter q xs)
  fewer_by_one k here gone [] there = absurd there
  fewer_by_one k here gone (x ∷ xs) (inl same) =
      let rest = fewer xs in
      let first : p x ≡ false = subst (λ z. p z ≡ false) same gone in
      let second : q x ≡ true = subst (λ z. q z ≡ true) same here in
      subst (λ t. length (cond t (x ∷ filter p xs) (filter p xs)) + 1 ≤ length (cond (q x) (x ∷ filter q xs) (filter q xs))) (sym first)
      (subst (λ t. length (filter p xs) + 1 ≤ length (cond t (x ∷ filter q xs) (filter q xs))) (sym second) (omega (arith, rest)))
  fewer_by_one k here gone (x ∷ xs) (inr there) =
      let rest = fewer_by_one k here gone xs there in
      elim (p x) as (λ t. p x ≡ t → length (cond t (x ∷ filter p xs) (filter p xs)) + 1 ≤ length (cond (q x) (x ∷ filter q xs) (filter q xs))) [
        | true ↦ λ e. subst (λ t. length (x ∷ filter p xs) + 1 ≤ length (cond t (x ∷ filter q xs) (filter q xs))) (sym (more x e)) (omega (arith, rest))
        | false ↦ λ _. let longer = kept_longer (q x) x (filter q xs) in omega (arith, rest, longer)
      ] refl

abbrev pub above : Option Text → List Text → List Text
above after keys = filter (is_above after) keys

pub above-le : (after : Option Text) (keys : List Text) → length (above after keys) ≤ length keys
above-le after keys = let e = length-filter (is_above after) keys in let h = count_by-le-length (is_above after) keys in omega (arith, e, h)

pub above_fewer : (after : Option Text) (k : Text) (keys : List Text) → is_above after k ≡ true → list_any (same_text k) keys ≡ true → length (above (Some k) keys) + 1 ≤ length (above after keys)
above_fewer after k keys up there =
    let h = any_in (same_text k) keys there in
    fewer_by_one (is_above (Some k)) (is_above after) (λ a e. above-up after k a up e) k up (less-own k) keys (subst (λ z. IsIn z keys) (sym (same_text_is k h.0 h.2)) h.1)
