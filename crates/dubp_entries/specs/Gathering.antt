-- Answers that are gathered before they are written: what was written of them, and what is known while some are still to be written.
use Rattle.std.specs.Prelude.{◌≡◌, ℕ, List, ◌++◌, Option}
use Rattle.std.specs.Io.KnownBytes.{Appends}
use Rattle.dubp_outside.specs.Parts.{AppendsPart}
use Rattle.dubp_replay.specs.Turns.{State}
use Rattle.dubp_entries.specs.Entries.{Entry, text_of, IsWhole}
use Rattle.dubp_entries.specs.Session.{Served, Broke}
use Rattle.dubp_entries.specs.Reading.{Shows, Stands}
use Rattle.dubp_entries.specs.declared.item.Item.{Item}
use Rattle.dubp_entries.specs.declared.reading.Phase.{Phase}

-- how many bytes are gathered at most
abbrev pub most_gathered : ℕ
most_gathered = 65536

-- of what was gathered, and this answer behind it, the front was written, and the rest is gathered
pub record Passes (before after : Option (List ℕ)) (gathered answer left : List ℕ) : Type 0 where
  pub written : List ℕ
  pub all : gathered ++ answer ≡ written ++ left
  pub appends : Appends before after written

-- What was answered, where these gathered bytes are still to be written: written whole, they complete what was served; written in
-- part, they break it off.
pub record Owed (old new : State) (before after : Option (List ℕ)) (bytes rest gathered : List ℕ) : Type 0 where
  pub whole : (final : Option (List ℕ)) → Appends after final gathered → Served old new before final bytes rest
  pub part : (final : Option (List ℕ)) → AppendsPart after final gathered → Broke old new before final bytes

-- The same as far as the bytes at hand go on from there.
pub record OwedTo (old new : State) (before after : Option (List ℕ)) (bytes : List ℕ) (phase : Phase) (hand gathered : List ℕ) : Type 0 where
  pub rest : List ℕ
  pub owed : Owed old new before after bytes rest gathered
  pub stands : Stands phase hand rest

-- the entry that the item shows took its turn behind what was owed before, and this is owed now
abbrev pub TurnOwed : State → State → Option (List ℕ) → Option (List ℕ) → List ℕ → List ℕ → Item → Type 0
TurnOwed middle new between after gathered left item =
    (entry : Entry) → IsWhole entry → Shows item entry → (old : State) (before : Option (List ℕ)) (bytes rest : List ℕ)
    → Owed old middle before between bytes (text_of entry ++ rest) gathered → Owed old new before after bytes rest left

-- the same, and what was owed before, or the answer behind it, was not written whole
abbrev pub TurnOwedBroke : State → State → Option (List ℕ) → Option (List ℕ) → List ℕ → Item → Type 0
TurnOwedBroke middle new between after gathered item =
    (entry : Entry) → IsWhole entry → Shows item entry → (old : State) (before : Option (List ℕ)) (bytes rest : List ℕ)
    → Owed old middle before between bytes (text_of entry ++ rest) gathered → Broke old new before after bytes
