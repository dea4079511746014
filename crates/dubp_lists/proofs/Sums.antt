-- Sums over what remains of a list after some of it was named: the names are taken one by one, and each takes its own part away.
use Rattle.std.proofs.Common.{◌≡◌, ℕ, ◌+◌, Bool, true, false, cond, not, ◌||◌, List, [], ◌∷◌, filter, sum_by, refl, sym, true≢false, zero-add, add-zero, arith}
use Rattle.std.specs.List.{AllByRecursion, list_any}
use Rattle.std.proofs.lemmas.List.Sums.{sum_by-cons}

module _ {X : Type 0} (f : X → ℕ) where
  weigh : (b : Bool) (x : X) (ys : List X) → sum_by f (cond b (x ∷ ys) ys) ≡ cond b (f x) 0 + sum_by f ys
  weigh true x ys = sum_by-cons f x ys
  weigh false x ys = sym (zero-add _)

  three : (p u : Bool) (n : ℕ) → (p ≡ true → u ≡ false) → cond (not (p || u)) n 0 + cond p n 0 ≡ cond (not u) n 0
  three true true n apart = absurd (true≢false (apart refl))
  three true false n apart = zero-add n
  three false u n apart = add-zero _

  -- what neither p nor u takes, and what p takes, is what u leaves
  sum_left : (p u : X → Bool) → ((x : X) → p x ≡ true → u x ≡ false) → (xs : List X)
      → sum_by f (filter (λ x. not (p x || u x)) xs) + sum_by f (filter p xs) ≡ sum_by f (filter (λ x. not (u x)) xs)
  sum_left p u apart [] = refl
  sum_left p u apart (x ∷ xs) =
      omega (arith, weigh (not (p x || u x)) x (filter (λ x. not (p x || u x)) xs), weigh (p x) x (filter p xs), weigh (not (u x)) x (filter (λ x. not (u x)) xs), three (p x) (u x) (f x) (apart x), sum_left p u apart xs)

  all_left : (xs : List X) → sum_by f (filter (λ x. true) xs) ≡ sum_by f xs
  all_left [] = refl
  all_left (x ∷ xs) = omega (arith, sum_by-cons f x xs, sum_by-cons f x (filter (λ x. true) xs), all_left xs)

  module _ {I : Type 0} (names : I → X → Bool) (g : I → ℕ) where
    -- no element is named by this and by one of those
    abbrev pub IsApart : I → List I → Type 0
    IsApart i is = (x : X) → names i x ≡ true → list_any (λ j. names j x) is ≡ false

    abbrev pub AreApart : List I → Type 0
    AreApart [] = Unit {0}
    AreApart (i ∷ is) = IsApart i is × AreApart is

    -- what the names leave, and what they name, is the whole
    pub sum_named : (is : List I) (xs : List X) → AreApart is → AllByRecursion (λ i. sum_by f (filter (names i) xs) ≡ g i) is
        → sum_by f (filter (λ x. not (list_any (λ i. names i x) is)) xs) + sum_by g is ≡ sum_by f xs
    sum_named [] xs apart named = omega (arith, all_left xs)
    sum_named (i ∷ is) xs apart named =
        omega (arith, sum_by-cons g i is, sum_left (names i) (λ x. list_any (λ j. names j x) is) apart.0 xs, named.0, sum_named is xs apart.1 named.1)
