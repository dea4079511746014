-- Counts of faults: the count after one more, and when a call may fail.
use Rattle.std.specs.Prelude.{ℕ, ◌≡◌, ◌+◌, ◌-◌, ◌^◌, ◌≤◌, min, Result, OnOk, OnErr}

-- the count after one more fault: it stays where it stands at the greatest u64
abbrev pub raised_count : ℕ → ℕ
raised_count count = min (count + 1) (2 ^ 64 - 1)

-- the count rose by one: one that stands at the greatest u64 counts as risen
abbrev pub Rose : ℕ → ℕ → Type 0
Rose before now = now ≡ raised_count before

-- the count never falls, a call fails only where it rose, and a call that succeeds leaves it as it was
pub record HasCause {T E : Type 0} (before now : ℕ) (result : Result T E) : Type 0 where
  pub later : before ≤ now
  pub failed : OnErr result (Rose before now)
  pub same : OnOk result (now ≡ before)
