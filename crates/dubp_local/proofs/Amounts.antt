-- How large an amount can be in units.
use Rattle.std.proofs.Common.{ℕ, ◌*◌, ◌^◌, ◌<◌, ◌≤◌, arith}
use Rattle.std.proofs.Math.Nat.{pow-le-pow_right, mul-le-mul}

at_most : (amount power : ℕ) → amount < 2 ^ 64 → power ≤ 10 ^ 15 → amount * power < 2 ^ 114
at_most amount power a p =
    let few : amount ≤ 2 ^ 64 = omega arith in
    let m : amount * power ≤ 2 ^ 64 * 10 ^ 15 = mul-le-mul few p in
    omega arith

pub units_small : (amount base : ℕ) → amount < 2 ^ 64 → base ≤ 15 → amount * 10 ^ base < 2 ^ 114
units_small amount base a b = at_most amount (10 ^ base) a (pow-le-pow_right {n = 10} (omega arith) b)
