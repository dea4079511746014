-- Which parameters a currency may have, and the times that follow from them. Protocol: parameters.
use Rattle.std.specs.Prelude.{ℕ, ◌*◌, ◌/◌, ◌^◌, ◌≤◌, ◌<◌}
use Rattle.std.specs.Int.{div_ceil}
use Rattle.dubp_atoms.specs.declared.dec.Dec.{Dec}
use Rattle.dubp_params.specs.declared.params.Params.{Params}

abbrev pub IsAtMostOne : Dec → Type 0
IsAtMostOne d = d.mantissa ≤ 10 ^ d.places

-- from low to high
abbrev pub IsBetween : ℕ → ℕ → ℕ → Type 0
IsBetween low high n = (low ≤ n) × (n ≤ high)

-- a time: at most 2^40 − 1 seconds
abbrev pub IsTime : ℕ → Type 0
IsTime n = n < 2 ^ 40

-- a time that is not 0
abbrev pub IsSpan : ℕ → Type 0
IsSpan n = (1 ≤ n) × (n < 2 ^ 40)

pub record IsInRange (p : Params) : Type 0 where
  pub c : IsAtMostOne p.c
  pub dt : IsSpan p.dt
  pub ud0 : IsSpan p.ud0
  pub sig_period : IsTime p.sig_period
  pub sig_stock : IsBetween 1 65536 p.sig_stock
  pub sig_window : IsSpan p.sig_window
  pub sig_validity : IsSpan p.sig_validity
  pub sig_qty : p.sig_qty ≤ 65536
  pub idty_window : IsSpan p.idty_window
  pub ms_window : IsSpan p.ms_window
  pub xpercent : IsAtMostOne p.xpercent
  pub ms_validity : IsSpan p.ms_validity
  pub step_max : IsBetween 1 16 p.step_max
  pub median_time_blocks : IsBetween 1 10000 p.median_time_blocks
  pub avg_gen_time : IsBetween 2 (2 ^ 20) p.avg_gen_time
  pub dt_diff_eval : IsBetween 1 10000 p.dt_diff_eval
  pub percent_rot : IsAtMostOne p.percent_rot
  pub ud_time0 : IsTime p.ud_time0
  pub ud_reeval_time0 : IsTime p.ud_reeval_time0
  pub dt_reeval : IsSpan p.dt_reeval

-- avgGenTime × 1.189, rounded up
abbrev pub greatest_gen_time : Params → ℕ
greatest_gen_time p = div_ceil (p.avg_gen_time * 1189) 1000

-- avgGenTime / 1.189, rounded down
abbrev pub least_gen_time : Params → ℕ
least_gen_time p = p.avg_gen_time * 1000 / 1189

-- how far the time of a block may be ahead of its median time
abbrev pub greatest_acceleration : Params → ℕ
greatest_acceleration p = greatest_gen_time p * p.median_time_blocks
