-- Lists of which some elements are taken: what was taken and what remains, in another order and in order again.
use Rattle.std.proofs.Common.{◌≡◌, ℕ, ◌+◌, ◌<◌, ◌≤◌, Bool, true, false, cond, ◌||◌, ◌==◌, List, [], ◌∷◌, ◌++◌, filter, sum_by, refl, ap, sym, ◌∙◌, subst, inl, inr, arith}
use Rattle.std.specs.List.{AllByRecursion}
use Rattle.std.specs.List.Sorted.{IsPermutation, IsNonDecreasingBy}
use Rattle.std.proofs.lemmas.List.Sums.{sum_by-cons}
use Rattle.std.proofs.lemmas.List.Elements.{All-from_recursion, recursion_from_All, All-tail}
use Rattle.std.proofs.lemmas.List.Sorted.{IsPermutation-refl, IsPermutation-sym, IsPermutation-cons, IsPermutation-trans, IsPermutation-middle, All-permutation, sum_by-IsPermutation, IsNonDecreasingBy-drop}
use Rattle.std.proofs.lemmas.Bool.Decides.{Decides-eqb}
use Rattle.dubp_sindex.proofs.Elements.{is_false, IsIn, all_from_in, in_all, in_filter}

module _ {X : Type 0} where
  -- elements of two kinds, one kind behind the other, are in another order those of either kind
  pub both_kinds : (p q : X → Bool) → ((x : X) → p x ≡ true → q x ≡ false) → (xs : List X) → IsPermutation (filter p xs ++ filter q xs) (filter (λ x. p x || q x) xs)
  both_kinds p q apart [] = IsPermutation-refl []
  both_kinds p q apart (x ∷ xs) =
      elim (p x) as (λ r. p x ≡ r → IsPermutation (cond r (x ∷ filter p xs) (filter p xs) ++ cond (q x) (x ∷ filter q xs) (filter q xs)) (cond (r || q x) (x ∷ filter (λ x. p x || q x) xs) (filter (λ x. p x || q x) xs))) [
        | true ↦ λ is. subst (λ r. IsPermutation ((x ∷ filter p xs) ++ cond r (x ∷ filter q xs) (filter q xs)) (x ∷ filter (λ x. p x || q x) xs)) (sym (apart x is))
            (IsPermutation-cons x (filter p xs ++ filter q xs) (filter (λ x. p x || q x) xs) (both_kinds p q apart xs))
        | false ↦ λ _. second (q x) (both_kinds p q apart xs)
      ] refl
    where
      second : (r : Bool) → IsPermutation (filter p xs ++ filter q xs) (filter (λ x. p x || q x) xs)
          → IsPermutation (filter p xs ++ cond r (x ∷ filter q xs) (filter q xs)) (cond r (x ∷ filter (λ x. p x || q x) xs) (filter (λ x. p x || q x) xs))
      second true later =
          IsPermutation-trans (filter p xs ++ x ∷ filter q xs) (x ∷ (filter p xs ++ filter q xs)) (x ∷ filter (λ x. p x || q x) xs)
          (IsPermutation-middle (filter p xs) x (filter q xs))
          (IsPermutation-cons x (filter p xs ++ filter q xs) (filter (λ x. p x || q x) xs) later)
      second false later = later

  -- the same elements, however often
  pub in_permutation : (xs ys : List X) → IsPermutation xs ys → (x : X) → IsIn x ys → IsIn x xs
  in_permutation xs ys same =
      in_all (λ x. IsIn x xs) ys (recursion_from_All (λ x. IsIn x xs) ys (All-permutation (λ x. IsIn x xs) xs ys same (All-from_recursion (λ x. IsIn x xs) xs (all_from_in (λ x. IsIn x xs) xs (λ x there. there)))))

  module _ (n : X → ℕ) where
    -- each is below all that follow; each is at most all that follow
    abbrev pub Climbs : List X → Type 0
    Climbs [] = Unit {0}
    Climbs (x ∷ xs) = AllByRecursion (λ y. n x < n y) xs × Climbs xs

    abbrev pub NeverFalls : List X → Type 0
    NeverFalls [] = Unit {0}
    NeverFalls (x ∷ xs) = AllByRecursion (λ y. n x ≤ n y) xs × NeverFalls xs

    pub never_falls : (xs : List X) → IsNonDecreasingBy n xs → NeverFalls xs
    never_falls [] up = tt
    never_falls (x ∷ xs) up = (
      recursion_from_All (λ y. n x ≤ n y) xs (All-tail (λ y. n x ≤ n y) x xs (λ k d within. up 0 k d (omega arith) within)),
      never_falls xs (IsNonDecreasingBy-drop n 1 (x ∷ xs) up),
    )

    -- how many have this number
    abbrev at_number : ℕ → X → ℕ
    at_number k x = cond (n x == k) 1 0

    own : (k : ℕ) → (k == k) ≡ true
    own k = (Decides-eqb k k).1 refl

    none_above : (k : ℕ) (xs : List X) → AllByRecursion (λ y. k < n y) xs → sum_by (at_number k) xs ≡ 0
    none_above k [] above = refl
    none_above k (x ∷ xs) above =
        let other : (n x == k) ≡ false = is_false (n x == k) (λ e. omega (arith, (Decides-eqb (n x) k).0 e, above.0)) in
        sum_by-cons (at_number k) x xs ∙ (λ i. cond (other i) 1 0 + none_above k xs above.1 i)

    one_at_least : (k : ℕ) (xs : List X) (x : X) → IsIn x xs → n x ≡ k → 1 ≤ sum_by (at_number k) xs
    one_at_least k [] x there is = absurd there
    one_at_least k (y ∷ ys) x (inl e) is =
        let one : at_number k y ≡ 1 = ap (λ b. cond b 1 0) ((Decides-eqb (n y) k).1 (ap n (sym e) ∙ is)) in
        omega (arith, sum_by-cons (at_number k) y ys, one)
    one_at_least k (y ∷ ys) x (inr there) is = omega (arith, sum_by-cons (at_number k) y ys, one_at_least k ys x there is)

    -- the same elements, each number as often, of which one list climbs and the other never falls
    record AreAlike (xs ys : List X) : Type 0 where
      there : (x : X) → IsIn x xs → IsIn x ys
      back : (x : X) → IsIn x ys → IsIn x xs
      counts : (k : ℕ) → sum_by (at_number k) xs ≡ sum_by (at_number k) ys

    heads : (x y : X) (xs ys : List X) → AreAlike (x ∷ xs) (y ∷ ys) → NeverFalls (x ∷ xs) → Climbs (y ∷ ys) → x ≡ y
    heads x y xs ys alike up climbs =
        elim (alike.there x (inl refl)) [
          | inl e ↦ e
          | inr later ↦ elim (alike.back y (inl refl)) [
            | inl e ↦ sym e
            | inr behind ↦ absurd (omega (arith, in_all (λ z. n y < n z) ys climbs.0 x later, in_all (λ z. n x ≤ n z) xs up.0 y behind))
          ]
        ]

    tails : (x : X) (xs ys : List X) → AreAlike (x ∷ xs) (x ∷ ys) → Climbs (x ∷ ys) → AreAlike xs ys
    tails x xs ys alike climbs = record {
      there = λ z in_xs. elim (alike.there z (inr in_xs)) [
        | inl e ↦ absurd (omega (arith, one_at_least (n x) xs z in_xs (ap n e), less (n x), none_above (n x) ys climbs.0))
        | inr in_ys ↦ in_ys
      ];
      back = λ z in_ys. elim (alike.back z (inr in_ys)) [
        | inl e ↦ absurd (omega (arith, in_all (λ w. n x < n w) ys climbs.0 z in_ys, ap n e))
        | inr in_xs ↦ in_xs
      ];
      counts = less;
    }
      where
        less : (k : ℕ) → sum_by (at_number k) xs ≡ sum_by (at_number k) ys
        less k = omega (arith, alike.counts k, sum_by-cons (at_number k) x xs, sum_by-cons (at_number k) x ys)

    are_one : (xs ys : List X) → AreAlike xs ys → NeverFalls xs → Climbs ys → xs ≡ ys
    are_one [] [] alike up climbs = refl
    are_one [] (y ∷ ys) alike up climbs = absurd (alike.back y (inl refl))
    are_one (x ∷ xs) [] alike up climbs = absurd (alike.there x (inl refl))
    are_one (x ∷ xs) (y ∷ ys) alike up climbs =
        let e = heads x y xs ys alike up climbs in
        let alike' : AreAlike (x ∷ xs) (x ∷ ys) = subst (λ z. AreAlike (x ∷ xs) (z ∷ ys)) (sym e) alike in
        let climbs' : Climbs (x ∷ ys) = subst (λ z. Climbs (z ∷ ys)) (sym e) climbs in
        let later = are_one xs ys (tails x xs ys alike' climbs') up.1 climbs'.1 in
        λ i. e i ∷ later i

    -- a list that climbs is what sorting gives of its elements
    pub sorted_is : (xs ys : List X) → IsPermutation xs ys → IsNonDecreasingBy n xs → Climbs ys → xs ≡ ys
    sorted_is xs ys same up climbs =
        are_one xs ys
        (record {
          there = in_permutation ys xs (IsPermutation-sym xs ys same);
          back = in_permutation xs ys same;
          counts = λ k. sym (sum_by-IsPermutation (at_number k) xs ys same);
        })
        (never_falls xs up) climbs

    below_kept : (p : X → Bool) (k : ℕ) (xs : List X) → AllByRecursion (λ y. k < n y) xs → AllByRecursion (λ y. k < n y) (filter p xs)
    below_kept p k xs below = all_from_in (λ y. k < n y) (filter p xs) (λ y there. in_all (λ y. k < n y) xs below y (in_filter p xs y there).0)

    pub climbs-filter : (p : X → Bool) (xs : List X) → Climbs xs → Climbs (filter p xs)
    climbs-filter p [] climbs = tt
    climbs-filter p (x ∷ xs) climbs =
        let later = climbs-filter p xs climbs.1 in
        elim (p x) as (λ r. Climbs (cond r (x ∷ filter p xs) (filter p xs))) [ true ↦ (below_kept p (n x) xs climbs.0, later) | false ↦ later ]
