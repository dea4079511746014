-- What a part of a session has done.
use Rattle.std.specs.Prelude.{◌≡◌, ℕ, List, [], ◌∷◌, ◌++◌, Option}
use Rattle.std.specs.Io.KnownBytes.{Appends}
use Rattle.dubp_outside.specs.Parts.{AppendsPart}
use Rattle.dubp_replay.specs.Turns.{State, Runs}
use Rattle.dubp_entries.specs.Entries.{Entry, AllWhole}
use Rattle.dubp_entries.specs.Cut.{texts}
use Rattle.dubp_entries.specs.Turns.{EntryTurn, joined}

-- The whole entries between these bytes and those were answered, and the answers written.
pub record Served (old new : State) (before after : Option (List ℕ)) (bytes rest : List ℕ) : Type 0 where
  pub entries : List Entry
  pub answers : List (List ℕ)
  pub bytes_are : bytes ≡ texts entries ++ rest
  pub each : AllWhole entries
  pub run : Runs EntryTurn old entries answers new
  pub written : Appends before after (joined answers)

-- The same, and then one more entry took its turn, and its answer was not written whole.
pub record Broke (old new : State) (before after : Option (List ℕ)) (bytes : List ℕ) : Type 0 where
  pub entries : List Entry
  pub answers : List (List ℕ)
  pub entry : Entry
  pub answer : List ℕ
  pub rest : List ℕ
  pub bytes_are : bytes ≡ texts (entries ++ entry ∷ []) ++ rest
  pub each : AllWhole (entries ++ entry ∷ [])
  pub run : Runs EntryTurn old (entries ++ entry ∷ []) (answers ++ answer ∷ []) new
  pub between : Option (List ℕ)
  pub whole : Appends before between (joined answers)
  pub part : AppendsPart between after answer
