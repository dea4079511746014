-- Whether a key is near enough to the sentries. Protocol: distance.
use Rattle.std.specs.Prelude.{ℕ, ◌*◌, ◌^◌, ◌≤◌, List, length}
use Rattle.dubp_time.specs.OfAtoms.{Text}
use Rattle.dubp_time.specs.OfAtoms.{sentries_of, others, IsReachedBy}
use Rattle.dubp_chain.specs.Chains.{Chain, params}
use Rattle.dubp_chain.specs.Members.{members}
use Rattle.dubp_chain.specs.Live.{live_pairs}

abbrev pub sentries : Chain → List Text
sentries c = sentries_of (members c) (live_pairs c) (params c).step_max

-- how many sentries there are, k aside
abbrev pub sentry_count : Chain → Text → ℕ
sentry_count c k = length (others (sentries c) k)

-- from so many of them a walk of live certifications among members leads to k within stepMax steps
abbrev pub IsReached : Chain → Text → ℕ → Type 0
IsReached c k reached = IsReachedBy (members c) (live_pairs c) (params c).step_max k reached

-- they are xpercent of the sentries or more
abbrev pub IsNear : Chain → ℕ → ℕ → Type 0
IsNear c reached count = (params c).xpercent.mantissa * count ≤ reached * 10 ^ (params c).xpercent.places

pub record Passes (c : Chain) (k : Text) : Type 0 where
  pub reached : ℕ
  pub counted : IsReached c k reached
  pub near : IsNear c reached (sentry_count c k)
