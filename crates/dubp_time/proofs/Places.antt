-- Where a time stands in a list in rising order, and the list without it.
use Rattle.std.proofs.Common.{◌≡◌, ℕ, suc, ◌+◌, ◌<◌, ◌≤◌, true, false, cond, List, [], ◌∷◌, length, get_or, slice_index, ◌==◌, nat_lt, refl, ap, ltb-true, arith}
use Rattle.std.specs.List.{SameBelow, ShiftedDown}
use Rattle.std.specs.List.Sorted.{IsNonDecreasing}
use Rattle.std.proofs.lemmas.Bool.{eqb-true, ltb-false}
use Rattle.std.proofs.lemmas.Bool.Decides.{nat_tests}
use Rattle.dubp_time.specs.Median.{count_of}
use Rattle.dubp_time.proofs.MedianLaws.{count_of-cons}

record StandsAt (xs : List ℕ) (t k : ℕ) : Type 0 where
  within : k < length xs
  is : slice_index xs k ≡ t

-- a time that is among the list stands at some place
some_place : (t : ℕ) (xs : List ℕ) → 0 < count_of t xs → (k : ℕ) × StandsAt xs t k
some_place t [] some = absurd (omega arith)
some_place t (x ∷ xs) some =
    elim (x == t) as (λ b. (x == t) ≡ b → (k : ℕ) × StandsAt (x ∷ xs) t k) [
      | true ↦ λ is. (0, record { within = omega arith; is = eqb-true x t is })
      | false ↦ λ is.
          let none : cond {A = ℕ} (x == t) 1 0 ≡ 0 = ap (λ b. cond b 1 0) is in
          let rest = some_place t xs (omega (arith, count_of-cons t x xs, none)) in
          let stands = rest.1 in
          (suc rest.0, record { within = omega (arith, stands.within); is = stands.is })
    ] refl

-- t stands at the bound between what is below it and what is not, if it stands anywhere
pub bound_stands : (xs : List ℕ) (t i : ℕ) → IsNonDecreasing xs → ((k : ℕ) → k < i → slice_index xs k < t) → ((k : ℕ) → i ≤ k → k < length xs → t ≤ slice_index xs k) → 0 < count_of t xs → (i < length xs) × (slice_index xs i ≡ t)
bound_stands xs t i rising below from some =
    let k = (some_place t xs some).0 in
    let stands = (some_place t xs some).1 in
    let here : slice_index xs k ≡ t = stands.is in
    let within : k < length xs = stands.within in
    let not_before : k < i → ⊥ = λ lt. (let less = below k lt in omega arith) in
    let behind : i ≤ k = omega (arith, not_before) in
    let low : slice_index xs i ≤ slice_index xs k = rising i k 0 behind within in
    (omega arith, omega (arith, from i))

-- the place that what stands at k had before the time at p was taken out
abbrev old_place : ℕ → ℕ → ℕ
old_place p k = cond (nat_lt k p) k (k + 1)

from_old_place : (xs ys : List ℕ) (p k d : ℕ) → SameBelow xs ys p → ShiftedDown xs ys p → get_or ys k d ≡ get_or xs (old_place p k) d
from_old_place xs ys p k d same down =
    elim (nat_lt k p) as (λ b. nat_lt k p ≡ b → get_or ys k d ≡ get_or xs (cond b k (k + 1)) d) [
      | true ↦ λ is. same k d (ltb-true k p is)
      | false ↦ λ is. down k d (ltb-false k p is)
    ] refl

old_place-le : (p i j : ℕ) → i ≤ j → old_place p i ≤ old_place p j
old_place-le p i j le = grind (arith, nat_tests)

old_place-within : (p k n : ℕ) → k + 1 < n → old_place p k < n
old_place-within p k n lt = grind (arith, nat_tests)

-- what is left of times in rising order is in rising order
pub rising_without : (xs ys : List ℕ) (p : ℕ) → SameBelow xs ys p → ShiftedDown xs ys p → length ys + 1 ≡ length xs → IsNonDecreasing xs → IsNonDecreasing ys
rising_without xs ys p same down len rising i j d le lt =
    rw (from_old_place xs ys p i d same down, from_old_place xs ys p j d same down) (rising (old_place p i) (old_place p j) d (old_place-le p i j le) (old_place-within p j (length xs) (omega arith)))
