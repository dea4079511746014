-- What the calls that answer commands ensure.
use Rattle.std.specs.Prelude.{ℕ, List, ◌++◌, Option}
use Rattle.std.specs.Io.KnownBytes.{Appends}
use Rattle.dubp_outside.specs.Parts.{AppendsPart}
use Rattle.dubp_replay.specs.Turns.{State}
use Rattle.dubp_entries.specs.Entries.{Entry, IsWhole}
use Rattle.dubp_entries.specs.Cut.{BeginsNone, lacking}
use Rattle.dubp_entries.specs.Turns.{EntryTurn}
use Rattle.dubp_entries.specs.Session.{Served}
use Rattle.dubp_entries.specs.Reading.{Shows, Stands}
use Rattle.dubp_entries.specs.Run.{IsLeftOver}
use Rattle.dubp_entries.specs.declared.item.Item.{Item}
use Rattle.dubp_entries.specs.declared.ends.InputEnd.{InputEnd}
use Rattle.dubp_entries.specs.declared.reading.Phase.{Phase}

-- the command that the item shows took its turn, and its answer was written
abbrev pub TurnWritten : State → State → Option (List ℕ) → Option (List ℕ) → Item → Type 0
TurnWritten old new before after item =
    (entry : Entry) → IsWhole entry → Shows item entry → (answer : List ℕ) × EntryTurn old entry answer new × Appends before after answer

-- the same, and a part of its answer was written
abbrev pub TurnBroke : State → State → Option (List ℕ) → Option (List ℕ) → Item → Type 0
TurnBroke old new before after item =
    (entry : Entry) → IsWhole entry → Shows item entry → (answer : List ℕ) × EntryTurn old entry answer new × AppendsPart before after answer

-- The commands that begin these bytes were answered as far as whole ones stand there, and few bytes are left at hand.
pub record ServedAll (old new : State) (before after : Option (List ℕ)) (bytes : List ℕ) (phase : Phase) (hand : List ℕ) : Type 0 where
  pub rest : List ℕ
  pub served : Served old new before after bytes rest
  pub stands : Stands phase hand rest
  pub no_more : BeginsNone rest

-- The last command was answered, where the input ended behind these bytes, of which no whole command is the first.
pub record Finished (old new : State) (before after : Option (List ℕ)) (bytes : List ℕ) (end : InputEnd) : Type 0 where
  pub rest : List ℕ
  pub served : Served old new before after (bytes ++ lacking bytes) rest
  pub no_more : BeginsNone rest
  pub over : IsLeftOver end rest
