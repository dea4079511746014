-- The units of a dividend are few enough for 128 bits.
use Rattle.std.proofs.Common.{ℕ, ◌*◌, ◌^◌, ◌<◌, ◌≤◌, arith}
use Rattle.std.proofs.Math.Nat.{pow-le-pow_right, mul-le-mul_left}

pub units_small : (amount base : ℕ) → amount < 2 ^ 53 → base ≤ 15 → amount * 10 ^ base < 2 ^ 103
units_small amount base few low =
    let power : 10 ^ base ≤ 10 ^ 15 = pow-le-pow_right (omega arith) low in
    let most : amount * 10 ^ base ≤ amount * 10 ^ 15 = mul-le-mul_left amount power in
    omega (arith, most, few)
