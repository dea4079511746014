-- The web of the tests, which is two lists: its next issuers, its numbers and its order, with one pair or key more.
use Rattle.std.proofs.Common.{◌≡◌, ℕ, ◌+◌, ◌⊎◌, ◌&&◌, ◌||◌, inl, inr, Bool, true, false, cond, List, [], ◌∷◌, Option, Some, None, filter, map, length, Contains, refl, sym, ap, subst, ◌∙◌, true≢false, arith}
use Rattle.std.specs.Option.{option_map_or}
use Rattle.std.specs.List.{AllByRecursion, list_all, list_any}
use Rattle.std.specs.List.Sorted.{IsStrictlySortedBy}
use Rattle.std.specs.Set.{distinct_count, unique_keys}
use Rattle.std.specs.Ordering.{nat_cmp}
use Rattle.std.specs.declared.cmp.Ordering.TheVariants.{Less}
use Rattle.std.specs.Cmp.Lexicographic.{slice_cmp}
use Rattle.dubp_atoms.specs.Same.{Text, same_text}
use Rattle.dubp_wot.specs.Order.{less, is_above, IsInOrder, IsNextIssuer}
use Rattle.dubp_wot.proofs.KeyOrder.{less-is, less-own, less-under, and-left, and-right}
use Rattle.dubp_wot.proofs.Levels.{text_same, text_own}
use Rattle.dubp_wot.proofs.Members.{Contains-cases, Contains-there, Contains-none}

-- ---- the next issuer

pub next-none : (pairs : List (Text × Text)) (to : Text) (after : Option Text) → pairs ≡ [] → IsNextIssuer pairs to after None
next-none pairs to after is = λ a m. absurd (Contains-none (a, to) (subst (λ (ps : List (Text × Text)). Contains ps (a, to)) is m))

module _ (pair : Text × Text) (rest : List (Text × Text)) (to : Text) (after : Option Text) where
  kept : (best : Option Text) → IsNextIssuer rest to after best
      → (pair.1 ≡ to → is_above after pair.0 ≡ true → option_map_or (less pair.0) best true ≡ false)
      → IsNextIssuer (pair ∷ rest) to after best
  kept None none unless = λ a m. elim (Contains-cases pair (a, to) rest m) [
    | inl e ↦ by a e (is_above after a) refl
    | inr n ↦ none a n
  ]
    where
      by : (a : Text) → pair ≡ (a, to) → (t : Bool) → is_above after a ≡ t → t ≡ false
      by a e false h = refl
      by a e true h =
          absurd (true≢false (unless (ap (λ (p : Text × Text). p.1) e) (subst (λ z. is_above after z ≡ true) (sym (ap (λ (p : Text × Text). p.0) e)) h)))
  kept (Some b) some unless = (
    Contains-there pair (b, to) rest some.0,
    some.1,
    λ a m above. elim (Contains-cases pair (a, to) rest m) [
      | inl e ↦
          let first = ap (λ (p : Text × Text). p.0) e in
          subst (λ z. less z b ≡ false) first (unless (ap (λ (p : Text × Text). p.1) e) (subst (λ z. is_above after z ≡ true) (sym first) above))
      | inr n ↦ some.2 a n above
    ],
  )

  taken : (best : Option Text) → IsNextIssuer rest to after best → pair.1 ≡ to → is_above after pair.0 ≡ true
      → option_map_or (less pair.0) best true ≡ true → IsNextIssuer (pair ∷ rest) to after (Some pair.0)
  taken best next second above below = ((0, omega arith, ap (λ (z : Text). (pair.0, z)) second), above, λ a m up. least a up (Contains-cases pair (a, to) rest m))
    where
      under : (best : Option Text) → IsNextIssuer rest to after best → option_map_or (less pair.0) best true ≡ true
          → (a : Text) → is_above after a ≡ true → Contains rest (a, to) → less a pair.0 ≡ false
      under None none low a up m = absurd (true≢false (sym up ∙ none a m))
      under (Some b) some low a up m = less-under a pair.0 b low (some.2 a m up)

      least : (a : Text) → is_above after a ≡ true → (pair ≡ (a, to)) ⊎ Contains rest (a, to) → less a pair.0 ≡ false
      least a up (inl e) = subst (λ z. less z pair.0 ≡ false) (ap (λ (p : Text × Text). p.0) e) (less-own pair.0)
      least a up (inr m) = under best next below a up m

  module _ (pairs : List (Text × Text)) (best : Option Text) (is : pairs ≡ pair ∷ rest) (next : IsNextIssuer rest to after best) where
    pub next-kept : (pair.1 ≡ to → is_above after pair.0 ≡ true → option_map_or (less pair.0) best true ≡ false)
        → IsNextIssuer pairs to after best
    next-kept unless = subst (λ (ps : List (Text × Text)). IsNextIssuer ps to after best) (sym is) (kept best next unless)

    pub next-taken : same_text to pair.1 ≡ true → is_above after pair.0 ≡ true → option_map_or (less pair.0) best true ≡ true
        → IsNextIssuer pairs to after (Some pair.0)
    next-taken second above below =
        subst (λ (ps : List (Text × Text)). IsNextIssuer ps to after (Some pair.0)) (sym is)
        (taken best next (sym (text_same to pair.1 second)) above below)

    pub next-other : same_text to pair.1 ≡ false → IsNextIssuer pairs to after best
    next-other other = next-kept (λ e _. absurd (true≢false (sym (text_own to) ∙ subst (λ z. same_text to z ≡ false) e other)))

    pub next-passed : is_above after pair.0 ≡ false → IsNextIssuer pairs to after best
    next-passed passed = next-kept (λ _ above. absurd (true≢false (sym above ∙ passed)))

-- ---- the numbers

and-swap : (s t : Bool) → (s && t) ≡ (t && s)
and-swap true true = refl
and-swap true false = refl
and-swap false true = refl
and-swap false false = refl

pub any-swap : (from to : Text) (pairs : List (Text × Text))
    → list_any (λ p. same_text from p.0 && same_text to p.1) pairs ≡ list_any (λ p. same_text to p.1 && same_text from p.0) pairs
any-swap from to [] = refl
any-swap from to (p ∷ ps) =
    ap (λ t. t || list_any (λ p. same_text from p.0 && same_text to p.1) ps) (and-swap (same_text from p.0) (same_text to p.1))
    ∙ ap (λ t. (same_text to p.1 && same_text from p.0) || t) (any-swap from to ps)

module _ (key : Text × Text → Text) (test : Text × Text → Bool) where
  any-picked : (y : Text) (xs : List (Text × Text)) → list_any (same_text y) (map key (filter test xs)) ≡ list_any (λ p. test p && same_text y (key p)) xs
  any-picked y [] = refl
  any-picked y (x ∷ xs) =
      elim (test x) as (λ t. list_any (same_text y) (map key (cond t (x ∷ filter test xs) (filter test xs))) ≡ ((t && same_text y (key x)) || list_any (λ p. test p && same_text y (key p)) xs)) [
        | true ↦ ap (λ t. same_text y (key x) || t) (any-picked y xs)
        | false ↦ any-picked y xs
      ]

  -- one pair more
  module _ (x : Text × Text) (rest pairs : List (Text × Text)) (is : pairs ≡ x ∷ rest) (n : ℕ) (before : n ≡ distinct_count same_text (map key (filter test rest))) where
    unpicked : (t : Bool) → test x ≡ t
        → distinct_count same_text (map key (filter test pairs)) ≡ distinct_count same_text (map key (cond t (x ∷ filter test rest) (filter test rest)))
    unpicked t h =
        ap (λ (ps : List (Text × Text)). distinct_count same_text (map key (filter test ps))) is
        ∙ ap (λ (s : Bool). distinct_count same_text (map key (cond s (x ∷ filter test rest) (filter test rest)))) h

    known : (t : Bool) → list_any (λ p. test p && same_text (key x) (key p)) rest ≡ t
        → distinct_count same_text (key x ∷ map key (filter test rest)) ≡ length (cond t (unique_keys same_text (map key (filter test rest))) (key x ∷ unique_keys same_text (map key (filter test rest))))
    known t h =
        ap (λ (s : Bool). length (cond s (unique_keys same_text (map key (filter test rest))) (key x ∷ unique_keys same_text (map key (filter test rest)))))
        (any-picked (key x) rest ∙ h)

    pub count-more : test x ≡ true → list_any (λ p. test p && same_text (key x) (key p)) rest ≡ false → n + 1 ≡ distinct_count same_text (map key (filter test pairs))
    count-more picked first =
        let e : n + 1 ≡ length (key x ∷ unique_keys same_text (map key (filter test rest))) = omega (arith, before) in
        e ∙ sym (known false first) ∙ sym (unpicked true picked)

    pub count-known : test x ≡ true → list_any (λ p. test p && same_text (key x) (key p)) rest ≡ true → n ≡ distinct_count same_text (map key (filter test pairs))
    count-known picked again = before ∙ sym (known true again) ∙ sym (unpicked true picked)

    pub count-other : test x ≡ false → n ≡ distinct_count same_text (map key (filter test pairs))
    count-other other = before ∙ sym (unpicked false other)

-- ---- the order

none_in_order : IsInOrder []
unfolding IsStrictlySortedBy
none_in_order = tt

pub in_order-none : (keys : List Text) → keys ≡ [] → IsInOrder keys
in_order-none keys is = subst IsInOrder (sym is) none_in_order

above-all : (x : Text) (xs : List Text) → list_all (less x) xs ≡ true → AllByRecursion (λ y. slice_cmp nat_cmp x y ≡ Less) xs
above-all x [] h = tt
above-all x (y ∷ ys) h =
    (less-is (slice_cmp nat_cmp x y) (and-left (less x y) (list_all (less x) ys) h), above-all x ys (and-right (less x y) (list_all (less x) ys) h))

one_in_order : (x : Text) (rest : List Text) → AllByRecursion (λ y. slice_cmp nat_cmp x y ≡ Less) rest → IsInOrder rest → IsInOrder (x ∷ rest)
unfolding IsStrictlySortedBy
one_in_order x rest above order = (above, order)

pub in_order-more : (x : Text) (rest keys : List Text) → keys ≡ x ∷ rest → list_all (less x) rest ≡ true → IsInOrder rest → IsInOrder keys
in_order-more x rest keys is above order = subst IsInOrder (sym is) (one_in_order x rest (above-all x rest above) order)
