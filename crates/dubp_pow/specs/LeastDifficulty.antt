-- The least difficulty of a block, from that of the one before. Protocol: least difficulty.
use Rattle.std.specs.Prelude.{ℕ, ◌+◌, ◌-◌, ◌*◌, ◌%◌, Bool, true, false, ◌==◌, nat_le, if◌then◌else◌}
use Rattle.dubp_params.specs.Ranges.{greatest_gen_time, least_gen_time}
use Rattle.dubp_params.specs.declared.params.Params.{Params}

-- one step up, or two where this gives a multiple of 16
abbrev pub step_up : ℕ → ℕ
step_up p = if (p + 2) % 16 == 0 then p + 2 else p + 1

-- one step down, or two from a multiple of 16, never below 0
abbrev pub step_down : ℕ → ℕ
step_down p = if p % 16 == 0 then p - 2 else p - 1

-- as it was where the number of the next evaluation did not move; one step up where the last `range` blocks took at most the
-- least time for so many; one step down where they took at least the greatest; else as it was
abbrev pub next_pow_min_of : ℕ → Bool → ℕ → ℕ → Params → ℕ
next_pow_min_of p false range elapsed params = p
next_pow_min_of p true range elapsed params =
    if nat_le elapsed (range * least_gen_time params) then step_up p else
    if nat_le (range * greatest_gen_time params) elapsed then step_down p else
    p
