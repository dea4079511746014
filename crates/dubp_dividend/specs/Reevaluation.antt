-- The re-evaluation of the dividend, in numbers without a bound. Protocol: re-evaluation of the dividend.
use Rattle.std.specs.Prelude.{ℕ, ◌+◌, ◌*◌, ◌^◌, ◌==◌, nat_lt, nat_le, if◌then◌else◌, Result, Ok, Err}
use Rattle.std.specs.Int.{div_ceil}
use Rattle.dubp_params.specs.declared.params.Params.{Params}
use Rattle.dubp_dividend.specs.declared.dividends.Dividend.{Dividend}
use Rattle.dubp_dividend.specs.declared.dividends.Limit.{Limit}
use Rattle.dubp_dividend.specs.declared.dividends.Limit.TheVariants.{X03, X04, X08}

-- M: the mass in units of the previous base, rounded up
abbrev pub mass_in_base : ℕ → ℕ → ℕ
mass_in_base mass base = div_ceil mass (10 ^ base)

-- m² × M × dt, where c is m / 10^k; 0 where there is no member
abbrev pub numerator : ℕ → ℕ → ℕ → Params → ℕ
numerator base mass members params =
    if members == 0 then 0 else params.c.mantissa * params.c.mantissa * mass_in_base mass base * params.dt

-- 10^(2k) × N × dtReeval
abbrev pub denominator : ℕ → Params → ℕ
denominator members params = 10 ^ (2 * params.c.places) * members * params.dt_reeval

-- d: the previous amount and the share, rounded up; the previous amount where there is no member
abbrev pub raised_amount : Dividend → ℕ → ℕ → Params → ℕ
raised_amount previous mass members params =
    if members == 0 then previous.amount else
    previous.amount + div_ceil (numerator previous.base mass members params) (denominator members params)

abbrev pub of_base : ℕ → ℕ → Dividend
of_base amount base = record { amount = amount; base = base }

-- an amount of 10000 or more becomes a tenth, rounded up, in the base above
abbrev pub rebased : ℕ → ℕ → Dividend
rebased amount base = if nat_lt amount 10000 then of_base amount base else of_base (div_ceil amount 10) (base + 1)

-- the dividend that a re-evaluation gives, whether or not it is within its limits
abbrev pub next_in_base : Dividend → ℕ → ℕ → Params → Dividend
next_in_base previous mass members params = rebased (raised_amount previous mass members params) previous.base

-- X04 past base 15, else X08 from an amount of 2^53 on
abbrev pub within_limits : Dividend → Result Dividend Limit
within_limits next =
    if nat_lt 15 next.base then Err X04 else
    if nat_le (2 ^ 53) next.amount then Err X08 else
    Ok next

-- X03 from a numerator of 2^127 on, else the other two limits of what it gives
abbrev pub next_dividend_of : Dividend → ℕ → ℕ → Params → Result Dividend Limit
next_dividend_of previous mass members params =
    if nat_le (2 ^ 127) (numerator previous.base mass members params) then Err X03 else
    within_limits (next_in_base previous mass members params)
