-- A choice looks at no document that waits, and keeps those that wait.
use Rattle.std.proofs.Common.{ℕ, List, [], ◌∷◌, ap, true}
use Rattle.dubp_resolve.specs.Resolve.{Line, Switched, Failed}
use Rattle.dubp_replay.specs.OfForging.{Doc}
use Rattle.dubp_replay.specs.declared.failure.Failure.{Failure}
use Rattle.dubp_replay.specs.Turns.{Branches, Chooses, ResolvesBy, State}
use Rattle.dubp_choosing.specs.States.{choosing, state_with}

abbrev waiting : List Doc → State → State
waiting pool s = record s { pool = pool }

resolves_waiting : (pool : List Doc) (old : State) (lines : List (Line Failure)) (new : State) → ResolvesBy old lines new → ResolvesBy (waiting pool old) lines (waiting pool new)
resolves_waiting pool old [] new r = (r.0, ap (waiting pool) r.1)
resolves_waiting pool old (Switched tip ∷ []) new r = (r.0, (r.1.0, r.1.1, r.1.2, r.1.3, ap (waiting pool) r.1.4))
resolves_waiting pool old (Switched tip ∷ (line ∷ lines)) new r = absurd r
resolves_waiting pool old (Failed f ∷ lines) new r =
    (r.0, waiting pool r.1, (r.2.0, r.2.1, r.2.2, r.2.3, ap (waiting pool) r.2.4), resolves_waiting pool r.1 lines new r.3)

pub chooses_waiting : (pool : List Doc) (first answer : List ℕ) (b new : Branches) (fs left : List Failure) → Chooses first (choosing b fs) answer (choosing new left) → Chooses first (state_with pool b true fs) answer (state_with pool new true left)
chooses_waiting pool first answer b new fs left c =
    record { lines = c.lines; resolves = resolves_waiting pool (choosing b fs) c.lines (choosing new left) c.resolves; text = c.text }
