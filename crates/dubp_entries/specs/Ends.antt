-- How a session ends.
use Rattle.std.specs.Prelude.{◌≡◌, ℕ, List, ◌++◌, Option}
use Rattle.dubp_outside.specs.Causes.{Rose}
use Rattle.dubp_replay.specs.Turns.{State}
use Rattle.dubp_entries.specs.Cut.{lacking}
use Rattle.dubp_entries.specs.Session.{Broke}
use Rattle.dubp_entries.specs.Serving.{Finished}
use Rattle.dubp_entries.specs.Run.{Situation, AnsweredSome, AnsweredMost, AnsweredToEnd, BrokeOff}
use Rattle.dubp_entries.specs.declared.ends.Ending.{Ending}
use Rattle.dubp_entries.specs.declared.ends.Ending.TheVariants.{Ended, ReadFault, WriteFault, TooMuch}

-- what stands after each ending
abbrev pub Ends : Situation → Situation → Ending → Type 0
Ends old new (Ended end) = AnsweredToEnd end old new
Ends old new ReadFault = AnsweredSome old new
Ends old new WriteFault = BrokeOff old new
Ends old new TooMuch = AnsweredMost old new

-- which counts of faults rose: that of the source, from the first to the second, and that of the sink
abbrev pub Faults : ℕ → ℕ → ℕ → ℕ → Ending → Type 0
Faults source source' sink sink' (Ended end) = (source' ≡ source) × (sink' ≡ sink)
Faults source source' sink sink' ReadFault = Rose source source' × (sink' ≡ sink)
Faults source source' sink sink' WriteFault = (source' ≡ source) × Rose sink sink'
Faults source source' sink sink' TooMuch = (source' ≡ source) × (sink' ≡ sink)

-- what the last line, of these bytes, leaves
abbrev pub LastEnds : State → State → Option (List ℕ) → Option (List ℕ) → List ℕ → Ending → Type 0
LastEnds old new held_before held_after bytes (Ended end) = Finished old new held_before held_after bytes end
LastEnds old new held_before held_after bytes ReadFault = ⊥
LastEnds old new held_before held_after bytes WriteFault = Broke old new held_before held_after (bytes ++ lacking bytes)
LastEnds old new held_before held_after bytes TooMuch = ⊥
