-- The turn of an entry of the input: it is the turn of the command that the entry is. Protocol: the input; commands and answers.
use Rattle.std.specs.Prelude.{ℕ, List}
use Rattle.std.specs.List.{flat_map}
use Rattle.dubp_laws.specs.Laws.{IsConserved}
use Rattle.dubp_replay.specs.Turns.{State, Asked, IsServed}
use Rattle.dubp_entries.specs.Entries.{Entry, Means}

-- from a state an entry may be answered so, and lead there
pub record EntryServed (old : State) (entry : Entry) (answer : List ℕ) (new : State) : Type 0 where
  pub asked : Asked
  pub means : Means entry asked
  pub served : IsServed old asked answer new

-- the same, and behind it the money of the chain adds up: what was issued is unspent or cleared
pub record EntryTurn (old : State) (entry : Entry) (answer : List ℕ) (new : State) : Type 0 where
  pub served : EntryServed old entry answer new
  pub conserved : IsConserved new.chain

-- what is written for these answers
abbrev pub joined : List (List ℕ) → List ℕ
joined answers = flat_map (λ a. a) answers
