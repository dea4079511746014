-- Products and sums that stop at a greatest number.
use Rattle.std.proofs.Common.{◌≡◌, ℕ, zero, suc, ◌*◌, ◌≤◌, ◌<◌, min, true, false, refl, ap, ◌∙◌, arith}
use Rattle.std.specs.Prelude.{nat_le}
use Rattle.std.proofs.lemmas.Nat.{mul-le}
use Rattle.std.proofs.lemmas.Bool.Decides.{nat_tests}

is_within : (n m : ℕ) → nat_le n m ≡ true → n ≤ m
is_within n m h = grind (arith, nat_tests)

is_past : (n m : ℕ) → nat_le n m ≡ false → m < n
is_past n m h = grind (arith, nat_tests)

-- a product with a factor that stops there stops where the product does
pub product_within : (amount power most : ℕ) → min (amount * min power most) most ≡ min (amount * power) most
product_within amount power most = elim (nat_le power most) as (λ r. nat_le power most ≡ r → min (amount * min power most) most ≡ min (amount * power) most) [
  | true ↦ λ e. let same : min power most ≡ power = let le = is_within power most e in omega (arith, le) in ap (λ n. min (amount * n) most) same
  | false ↦ λ e. let past = is_past power most e in let same : min power most ≡ most = omega (arith, past) in ap (λ n. min (amount * n) most) same ∙ past_all amount past
] refl
  where
    past_all : (amount : ℕ) → most < power → min (amount * most) most ≡ min (amount * power) most
    past_all zero past = omega arith
    past_all (suc n) past =
        let one : 1 * most ≤ suc n * most = mul-le 1 most (suc n) most (omega arith) (omega arith) in
        let more : 1 * power ≤ suc n * power = mul-le 1 power (suc n) power (omega arith) (omega arith) in
        omega (arith, one, more, past)
