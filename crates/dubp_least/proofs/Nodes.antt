-- Who wins at a node, where one node is given another winner; and which nodes are above which.
use Rattle.std.proofs.Common.{◌≡◌, ◌≢◌, ℕ, suc, zero, ◌+◌, ◌-◌, ◌/◌, ◌<◌, ◌≤◌, List, length, get_or, set, sym, ap, ◌∙◌, refl, arith, ◌⊎◌, inl, inr}
use Rattle.std.proofs.lemmas.List.{get_or-set_same, get_or-set_other, length-set}
use Rattle.std.proofs.lemmas.Bool.{cases_lt}
use Rattle.std.proofs.lemmas.Bool.Decides.{nat_tests}
use Rattle.dubp_least.specs.Matches.{up, winner_at, IsAbove}

module _ (winners : List ℕ) where
  pub winner_at-match : (k : ℕ) → k < length winners → winner_at winners k ≡ get_or winners k 0
  winner_at-match k lt = grind (arith, nat_tests)

  pub winner_at-place : (k : ℕ) → length winners ≤ k → winner_at winners k ≡ k - length winners
  winner_at-place k le = grind (arith, nat_tests)

  pub winner_at-end : (i : ℕ) → winner_at winners (length winners + i) ≡ i
  winner_at-end i = winner_at-place (length winners + i) (omega arith) ∙ omega arith

module _ (winners : List ℕ) (h x : ℕ) where
  abbrev then : List ℕ
  then = set winners h x

  long : length then ≡ length winners
  long = length-set winners h x

  pub winner_at-set_same : h < length winners → winner_at then h ≡ x
  winner_at-set_same lt = winner_at-match then h (omega (arith, long, lt)) ∙ get_or-set_same winners h x 0 lt

  pub winner_at-set_other : (m : ℕ) → m ≢ h → winner_at then m ≡ winner_at winners m
  winner_at-set_other m off = elim (cases_lt m (length winners)) [
    | inl lt ↦ winner_at-match then m (omega (arith, long, lt)) ∙ get_or-set_other winners h m x 0 off ∙ sym (winner_at-match winners m lt)
    | inr ge ↦ winner_at-place then m (omega (arith, long, ge)) ∙ ap (λ n. m - n) long ∙ sym (winner_at-place winners m (omega (arith, ge)))
  ]

up_half : (t k : ℕ) → up (suc t) k ≡ (up t k) / 2
up_half zero k = refl
up_half (suc t) k = up_half t (k / 2)

pub up_zero : (t : ℕ) → up t 0 ≡ 0
up_zero zero = refl
up_zero (suc t) = up_zero t

-- what is above a node is above what is below it
pub above_child : (c k j : ℕ) → c / 2 ≡ k → IsAbove c j → IsAbove k j
above_child c k j half a = record { matches = suc a.matches; is = up_half a.matches j ∙ ap (λ x. x / 2) a.is ∙ half }

pub above_step : (k j : ℕ) → IsAbove k j → (k ≡ j) ⊎ IsAbove k (j / 2)
above_step k j a = by_matches a.matches a.is
  where
    by_matches : (t : ℕ) → up t j ≡ k → (k ≡ j) ⊎ IsAbove k (j / 2)
    by_matches zero e = inl (sym e)
    by_matches (suc t) e = inr (record { matches = t; is = e })
