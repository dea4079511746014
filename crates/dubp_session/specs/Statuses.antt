-- The statuses of a run, and which counts of faults rose at each.
use Rattle.std.specs.Prelude.{◌≡◌, ◌⊎◌, ℕ}
use Rattle.dubp_outside.specs.Causes.{Rose}
use Rattle.dubp_session.specs.declared.running.TheConstants.{ENDED, USAGE, READ_FAULT, CUT_SHORT, WRITE_FAULT, NO_ROOM, TOO_MUCH}

-- the statuses that say how the run ended without a fault
abbrev pub IsQuiet : ℕ → Type 0
IsQuiet status =
    (status ≡ ENDED) ⊎ (status ≡ USAGE) ⊎ (status ≡ CUT_SHORT) ⊎ (status ≡ NO_ROOM) ⊎ (status ≡ TOO_MUCH)

abbrev pub IsStatus : ℕ → Type 0
IsStatus status = IsQuiet status ⊎ (status ≡ READ_FAULT) ⊎ (status ≡ WRITE_FAULT)

-- the statuses of a run that generates
abbrev pub GenStatus : ℕ → Type 0
GenStatus status = (status ≡ ENDED) ⊎ (status ≡ WRITE_FAULT) ⊎ (status ≡ NO_ROOM)

-- The source's count of faults goes from the first to the second, the sink's from the third to the fourth. A fault of reading or
-- writing is claimed exactly where its count rose, and the other count stays.
pub record StatusFaults (source source' sink sink' status : ℕ) : Type 0 where
  pub quiet : IsQuiet status → (source' ≡ source) × (sink' ≡ sink)
  pub reading : status ≡ READ_FAULT → Rose source source' × (sink' ≡ sink)
  pub writing : status ≡ WRITE_FAULT → (source' ≡ source) × Rose sink sink'
