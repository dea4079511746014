-- Which hashes meet a difficulty. Protocol: meeting a difficulty.
use Rattle.std.specs.Prelude.{◌≡◌, ℕ, ◌-◌, ◌/◌, ◌%◌, ◌<◌, ◌≤◌, List, take, slice_index, nat_lt, if◌then◌else◌}
use Rattle.std.specs.List.{All}

-- the value of a hexadecimal digit in upper case: 0 to 9 for `0` to `9`, 10 to 15 for `A` to `F`
abbrev pub hex_value : ℕ → ℕ
hex_value c = if nat_lt c 65 then c - 48 else c - 55

-- the first d div 16 digits are `0`, and the next one is at most 15 − (d mod 16); no hash meets 1024 or more
pub record Meets (digits : List ℕ) (d : ℕ) : Type 0 where
  pub limit : d < 1024
  pub zeros : All (λ c. c ≡ 48) (take (d / 16) digits)
  pub next : hex_value (slice_index digits (d / 16)) ≤ 15 - d % 16
