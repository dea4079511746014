-- Powers, and the least number whose power is at least some number.
use Rattle.std.proofs.Common.{◌≡◌, ℕ, zero, suc, ◌+◌, ◌*◌, ◌^◌, ◌≤◌, ◌<◌, Bool, true, false, cond, Option, Some, inl, inr, sym, ap, subst, ◌∙◌, arith}
use Rattle.std.specs.Prelude.{find, nat_le, unwrap_or}
use Rattle.std.specs.List.{range_with_len}
use Rattle.std.proofs.Math.Nat.{pow-suc, pow-zero, pow-le-pow_right, pow-le-pow_left}
use Rattle.std.proofs.lemmas.Bool.{cases_lt}
use Rattle.std.proofs.lemmas.Bool.Decides.{nat_tests}
use Rattle.dubp_atoms.specs.Walks.{d_sen_of}

pub zero_pow : (n : ℕ) → 1 ≤ n → 0 ^ n ≡ 0
zero_pow zero h = absurd (omega arith)
zero_pow (suc n) h = let e = pow-suc 0 n in omega arith

pub le-pow : (d n : ℕ) → 1 ≤ n → d ≤ d ^ n
le-pow zero n h = omega arith
le-pow (suc d) n h =
    let up = pow-le-pow_right {n = suc d} (omega arith) {i = 1} {j = n} h in
    let first = pow-suc (suc d) 0 in
    let none = pow-zero (suc d) in
    let e : (suc d) ^ 1 ≡ 1 * suc d = first ∙ ap (λ (z : ℕ). z * suc d) none in
    omega arith

-- below a number whose power is too little all powers are
pub below-too_little : (members steps middle : ℕ) → middle ^ steps < members → (k : ℕ) → k < middle + 1 → k ^ steps < members
below-too_little members steps middle less k low =
    let up = pow-le-pow_left {n = k} {m = middle} (omega arith) steps in
    omega arith

-- the first number of a range that passes is found
find-first : (p : ℕ → Bool) (n a d : ℕ) → a ≤ d → d < a + n → p d ≡ true → ((k : ℕ) → k < d → p k ≡ false)
    → find p (range_with_len a n) ≡ Some d
find-first p zero a d low high passes fails = absurd (omega arith)
find-first p (suc n) a d low high passes fails =
    let pick = λ (t : Bool). cond t (Some a) (find p (range_with_len (a + 1) n)) in
    elim (cases_lt a d) [
      | inl less ↦ ap pick (fails a less) ∙ find-first p n (a + 1) d (omega arith) (omega arith) passes fails
      | inr more ↦
          let e : d ≡ a = omega arith in
          ap pick (subst (λ z. p z ≡ true) e passes) ∙ ap Some (sym e)
    ]

pub d_sen_of-least : (members steps d : ℕ) → d ≤ members → members ≤ d ^ steps → ((k : ℕ) → k < d → k ^ steps < members) → d ≡ d_sen_of members steps
d_sen_of-least members steps d within enough below =
    let passes : nat_le members (d ^ steps) ≡ true = grind (arith, nat_tests) in
    let found = find-first (λ k. nat_le members (k ^ steps)) (members + 1) 0 d (omega arith) (omega arith) passes (λ k low. fails k (below k low)) in
    sym (ap (λ (o : Option ℕ). unwrap_or o 0) found)
  where
    fails : (k : ℕ) → k ^ steps < members → nat_le members (k ^ steps) ≡ false
    fails k less = grind (arith, nat_tests)
