-- The difficulty of an issuer for the next block. Protocol: difficulty of an issuer.
use Rattle.std.specs.Prelude.{◌≡◌, ℕ, zero, suc, ◌+◌, ◌*◌, ◌/◌, ◌%◌, ◌^◌, ◌<◌, ◌≤◌, ◌⊎◌, ◌==◌, max, nat_le, if◌then◌else◌}
use Rattle.dubp_params.specs.OfAtoms.{Dec}
use Rattle.dubp_pow.specs.Ladder.{table_row}

-- the factor that keeps an issuer of a late block out for a while: percentRot × issuers / (1 + since), rounded down
abbrev pub exclusion_factor : Dec → ℕ → ℕ → ℕ
exclusion_factor rot issuers since = rot.mantissa * issuers / (10 ^ rot.places * (1 + since))

-- one more where this gives a multiple of 16: 15 past such a multiple asks of a hash what 16 past it asks
abbrev pub past_fifteen : ℕ → ℕ
past_fifteen x = if (x + 1) % 16 == 0 then x + 1 else x

abbrev pub issuer_diff_of : ℕ → Dec → ℕ → ℕ → ℕ → ℕ
issuer_diff_of pow_min rot issuers since handicap = past_fifteen (max pow_min (pow_min * exclusion_factor rot issuers since)) + handicap

-- The blocks of an issuer and one more reach row h: T(h) × the doubled median is at most (blocks + 1) × 2000000, two millions
-- since the rows are millionths and the median is doubled.
abbrev pub IsReached : ℕ → ℕ → ℕ → Type 0
IsReached blocks doubled_median h = table_row h * doubled_median ≤ (blocks + 1) * 2000000

-- the greatest up to 64 that is reached, and 0 where there is none
pub record IsHandicap (blocks doubled_median h : ℕ) : Type 0 where
  pub at_most : h ≤ 64
  pub reached : IsReached blocks doubled_median h ⊎ (h ≡ 0)
  pub greatest : (k : ℕ) → h < k → k ≤ 64 → (blocks + 1) * 2000000 < table_row k * doubled_median

-- The same as a value, for the definitions that stand on it: a search from 64 down.
unfoldable pub greatest_reached : ℕ → ℕ → ℕ → ℕ
greatest_reached blocks doubled_median zero = 0
greatest_reached blocks doubled_median (suc h) =
    if nat_le (table_row (suc h) * doubled_median) ((blocks + 1) * 2000000) then suc h else greatest_reached blocks doubled_median h

abbrev pub handicap_of : ℕ → ℕ → ℕ
handicap_of blocks doubled_median = greatest_reached blocks doubled_median 64
