-- How far the values of a head go, where all heads keep the limits. Only private functions and proofs read these.
use Rattle.std.specs.Prelude.{◌≡◌, ℕ, ◌+◌, ◌*◌, ◌^◌, ◌<◌, ◌≤◌, pos, ◌+ℤ◌, ◌≤ℤ◌}
use Rattle.dubp_params.specs.declared.params.Params.{Params}
use Rattle.dubp_chain.specs.declared.head.Head.{Head}

-- the money of a head
pub record MoneyInBounds (h : Head) : Type 0 where
  pub dividend : h.dividend < 2 ^ 53
  pub unit_base : h.unit_base ≤ 15
  pub mass : h.mass < 2 ^ 100
  pub mass_reeval : h.mass_reeval < 2 ^ 100

-- the head of the last of n blocks
pub record InBounds (p : Params) (n : ℕ) (h : Head) : Type 0 where
  pub number : h.number + 1 ≡ n
  pub short : n ≤ 2 ^ 40
  pub time : h.time < 2 ^ 40
  pub median_time : h.median_time < 2 ^ 40
  pub some_frame : 1 ≤ h.frame
  pub frame : h.frame ≤ n
  pub issuers : h.issuers ≤ n
  pub least_var : pos (5 * h.issuers) ≤ℤ (h.frame_var +ℤ pos n)
  pub greatest_var : h.frame_var ≤ℤ pos (5 * h.issuers + n)
  pub pow_min : h.pow_min ≤ 1023 + 2 * n
  pub diff_number : h.diff_number ≤ n + p.dt_diff_eval
  pub money : MoneyInBounds h
  pub ud_time : h.ud_time < 2 ^ 41
  pub ud_reeval_time : h.ud_reeval_time < 2 ^ 41
  pub size : h.size < 2 ^ 53

-- what holds of a head at any place
pub record IsSmall (h : Head) : Type 0 where
  pub number : h.number < 2 ^ 40
  pub time : h.time < 2 ^ 40
  pub issuers : h.issuers ≤ 2 ^ 40
  pub size : h.size < 2 ^ 53
