-- The greatest handicap that is reached: the code finds it below the first one that is not, since the rows do not fall.
use Rattle.std.proofs.Common.{◌≡◌, ℕ, zero, suc, ◌+◌, ◌-◌, ◌*◌, ◌<◌, ◌≤◌, ◌⊎◌, inl, inr, cond, true, false, ap, sym, subst, refl, arith}
use Rattle.std.specs.Prelude.{nat_le}
use Rattle.std.proofs.lemmas.Bool.{cases_lt}
use Rattle.std.proofs.lemmas.Bool.Decides.{nat_tests}
use Rattle.std.proofs.Math.Nat.{mul-le-mul_right}
use Rattle.dubp_pow.specs.Ladder.{table_row}
use Rattle.dubp_pow.specs.Difficulty.{IsReached, IsHandicap, greatest_reached, handicap_of}
use Rattle.dubp_pow.proofs.Rows.{table_row-rises}

-- where a row is past the reach, each one above it is
table_row-past : (reach median h k : ℕ) → h ≤ k → reach < table_row h * median → reach < table_row k * median
table_row-past reach median h k up past =
    let same : h + (k - h) ≡ k = omega arith in
    let above : table_row h ≤ table_row k = omega (arith, table_row-rises h (k - h), ap table_row same) in
    omega (arith, mul-le-mul_right median above)

pub below_first_past : (blocks median h : ℕ) → 1 ≤ h → h ≤ 64 → IsReached blocks median (h - 1) ⊎ (h - 1 ≡ 0) → (blocks + 1) * 2000000 < table_row h * median
    → IsHandicap blocks median (h - 1)
below_first_past blocks median h some within below past = record {
  at_most = omega arith;
  reached = below;
  greatest = λ k above _. table_row-past ((blocks + 1) * 2000000) median h k (omega arith) past;
}

-- what a search from n down gives
record IsGreatest (blocks median n h : ℕ) : Type 0 where
  at_most : h ≤ n
  reached : IsReached blocks median h ⊎ (h ≡ 0)
  greatest : (k : ℕ) → h < k → k ≤ n → (blocks + 1) * 2000000 < table_row k * median

-- the top is not reached, so what is found below it stays the greatest
not_at_top : (blocks median n h : ℕ) → nat_le (table_row (suc n) * median) ((blocks + 1) * 2000000) ≡ false → IsGreatest blocks median n h → IsGreatest blocks median (suc n) h
not_at_top blocks median n h test found = record {
  at_most = omega (arith, found.at_most);
  reached = found.reached;
  greatest = λ k above within. elim (cases_lt n k) [
    | inl past ↦ let top : k ≡ suc n = omega arith in subst (λ j. (blocks + 1) * 2000000 < table_row j * median) (sym top) past_top
    | inr below ↦ found.greatest k above below
  ];
}
  where
    past_top : (blocks + 1) * 2000000 < table_row (suc n) * median
    past_top = grind (arith, nat_tests)

search_down : (blocks median n : ℕ) → IsGreatest blocks median n (greatest_reached blocks median n)
unfolding greatest_reached
search_down blocks median zero = record { at_most = omega arith; reached = inr refl; greatest = λ k above within. absurd (omega arith) }
search_down blocks median (suc n) =
    let below = search_down blocks median n in
    elim (nat_le (table_row (suc n) * median) ((blocks + 1) * 2000000))
    as (λ t. nat_le (table_row (suc n) * median) ((blocks + 1) * 2000000) ≡ t → IsGreatest blocks median (suc n) (cond t (suc n) (greatest_reached blocks median n))) [
      | true ↦ λ test. record { at_most = omega arith; reached = inl (grind (arith, nat_tests)); greatest = λ k above within. absurd (omega arith) }
      | false ↦ λ test. not_at_top blocks median n (greatest_reached blocks median n) test below
    ] refl

pub handicap_of-is : (blocks median : ℕ) → IsHandicap blocks median (handicap_of blocks median)
handicap_of-is blocks median =
    let found = search_down blocks median 64 in
    record { at_most = found.at_most; reached = found.reached; greatest = found.greatest }

not_above : (blocks median h k : ℕ) → IsHandicap blocks median h → IsHandicap blocks median k → k ≤ h
not_above blocks median h k at_h at_k = elim (cases_lt h k) [
  | inl above ↦ let past = at_h.greatest k above at_k.at_most in elim at_k.reached [ inl reached ↦ omega arith | inr none ↦ omega arith ]
  | inr within ↦ within
]

pub handicap_is_one : (blocks median h : ℕ) → IsHandicap blocks median h → h ≡ handicap_of blocks median
handicap_is_one blocks median h given =
    let found = handicap_of-is blocks median in
    omega (arith, not_above blocks median h (handicap_of blocks median) given found, not_above blocks median (handicap_of blocks median) h found given)
