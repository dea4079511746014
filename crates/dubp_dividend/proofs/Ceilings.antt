-- Division rounded up, in steps: by a, and then by b, is by a × b.
use Rattle.std.proofs.Common.{◌≡◌, ℕ, ◌+◌, ◌*◌, ◌^◌, ◌<◌, ◌≤◌, inl, inr, arith, ap, ◌∙◌}
use Rattle.std.specs.Int.{div_ceil}
use Rattle.std.proofs.Math.Nat.{mul-le-mul_right, mul-pos, one-le-pow}
use Rattle.std.proofs.lemmas.Bool.{cases_lt}
use Rattle.std.proofs.lemmas.Grind.{div_ceil_times}
use Rattle.std.proofs.lemmas.Nat.{pow-add}

-- a quotient rounded up is at most each other that is enough
at_most : (n c q r : ℕ) → q * c < n + c → n ≤ r * c → q ≤ r
at_most n c q r least enough = elim (cases_lt r q) [
  | inl above ↦ let past : (r + 1) * c ≤ q * c = mul-le-mul_right c (omega arith) in absurd (omega arith)
  | inr within ↦ within
]

enough_in_steps : (n a b p q : ℕ) → n ≤ p * a → p ≤ q * b → n ≤ q * (a * b)
enough_in_steps n a b p q first second = omega (arith, mul-le-mul_right a second)

least_in_steps : (n a b p q : ℕ) → p * a < n + a → q * b < p + b → q * (a * b) < n + a * b
least_in_steps n a b p q first second =
    let times : (q * b + 1) * a ≤ (p + b) * a = mul-le-mul_right a (omega arith) in omega arith

pub div_ceil-div_ceil : (n a b : ℕ) → 0 < a → 0 < b → div_ceil (div_ceil n a) b ≡ div_ceil n (a * b)
div_ceil-div_ceil n a b some_a some_b =
    let first = div_ceil_times n a some_a in
    let second = div_ceil_times (div_ceil n a) b some_b in
    let whole = div_ceil_times n (a * b) (mul-pos some_a some_b) in
    let q = div_ceil (div_ceil n a) b in
    let r = div_ceil n (a * b) in
    let below = at_most n (a * b) q r (least_in_steps n a b (div_ceil n a) q first.1 second.1) whole.0 in
    let above = at_most n (a * b) r q whole.1 (enough_in_steps n a b (div_ceil n a) q first.0 second.0) in
    omega (arith, below, above)

square_times : (k members time : ℕ) → 10 ^ k * 10 ^ k * (members * time) ≡ 10 ^ (2 * k) * members * time
square_times k members time =
    let twice : 2 * k ≡ k + k = omega arith in
    rw (twice, pow-add 10 k k) (omega arith)

-- a share in three steps, none of which is past 128 bits
pub share_in_steps : (n k members time first second : ℕ) → 0 < members → 0 < time → first ≡ div_ceil n (10 ^ k) → second ≡ div_ceil first (10 ^ k)
    → div_ceil second (members * time) ≡ div_ceil n (10 ^ (2 * k) * members * time)
share_in_steps n k members time first second some_members some_time is_first is_second =
    let power : 0 < 10 ^ k = one-le-pow k 10 (omega arith) in
    let is_second' : second ≡ div_ceil n (10 ^ k * 10 ^ k) = is_second ∙ ap (λ x. div_ceil x (10 ^ k)) is_first ∙ div_ceil-div_ceil n (10 ^ k) (10 ^ k) power power in
    ap (λ x. div_ceil x (members * time)) is_second'
    ∙ div_ceil-div_ceil n (10 ^ k * 10 ^ k) (members * time) (mul-pos power power) (mul-pos some_members some_time)
    ∙ ap (div_ceil n) (square_times k members time)
