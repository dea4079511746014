-- What a run has done, at each of its ends.
use Rattle.std.specs.Prelude.{◌≡◌, ◌⊎◌, ℕ, ◌<◌, ◌≤◌, ◌^◌, List, [], ◌∷◌, ◌++◌, length, Option, codes}
use Rattle.std.specs.Io.KnownBytes.{Appends, Consumes, IsAtEnd}
use Rattle.std.specs.Borrow.{Bor}
use Rattle.dubp_replay.specs.Turns.{State, Runs}
use Rattle.dubp_entries.specs.Entries.{Entry}
use Rattle.dubp_entries.specs.Cut.{Cut, CutAtEnd, BeginsNone, lacking}
use Rattle.dubp_entries.specs.Turns.{EntryTurn, joined}
use Rattle.dubp_entries.specs.Session.{Served}
use Rattle.dubp_entries.specs.Reading.{Stands}
use Rattle.dubp_entries.specs.declared.reading.Phase.{Phase}
use Rattle.dubp_entries.specs.declared.ends.InputEnd.{InputEnd}
use Rattle.dubp_entries.specs.declared.ends.InputEnd.TheVariants.{OnBoundary, InsideFrame}

-- the one word of the command line is run
abbrev pub IsRun : List (Bor (List ℕ)) → Type 0
IsRun (word ∷ []) = word.now ≡ codes "run"
IsRun _ = ⊥

-- what a run changes: the state of the node, what the source has left, and what the sink holds, where they tell it
pub record Situation : Type 0 where
  pub state : State
  pub left : Option (List ℕ)
  pub held : Option (List ℕ)

abbrev pub at : State → Option (List ℕ) → Option (List ℕ) → Situation
at state left held = record { state = state; left = left; held = held }

-- the most bytes that a run takes
abbrev pub most_taken : ℕ
most_taken = 2 ^ 40

-- Every whole entry of the bytes that were taken was answered, the answers were written, and the node is in the state
-- after them.
pub record AnsweredAll (old new : Situation) : Type 0 where
  pub taken : List ℕ
  pub takes : Consumes old.left new.left taken
  pub entries : List Entry
  pub answers : List (List ℕ)
  pub rest : List ℕ
  pub cut : Cut taken entries rest
  pub run : Runs EntryTurn old.state entries answers new.state
  pub written : Appends old.held new.held (joined answers)

-- The same, and more bytes might be taken.
pub record AnsweredSome (old new : Situation) : Type 0 where
  pub answered : AnsweredAll old new
  pub fewer : length answered.taken < most_taken

-- The same, and no more bytes may be taken.
pub record AnsweredMost (old new : Situation) : Type 0 where
  pub answered : AnsweredAll old new
  pub most : length answered.taken ≡ most_taken

-- what is left over where the input ends
abbrev pub IsLeftOver : InputEnd → List ℕ → Type 0
IsLeftOver OnBoundary rest = rest ≡ []
IsLeftOver InsideFrame rest = 0 < length rest

-- The same where the input ended, on the boundary of an entry or inside a frame.
pub record AnsweredToEnd (end : InputEnd) (old new : Situation) : Type 0 where
  pub taken : List ℕ
  pub takes : Consumes old.left new.left taken
  pub ended : IsAtEnd new.left
  pub fewer : length taken < most_taken
  pub entries : List Entry
  pub answers : List (List ℕ)
  pub rest : List ℕ
  pub cut : CutAtEnd taken entries rest
  pub over : IsLeftOver end rest
  pub run : Runs EntryTurn old.state entries answers new.state
  pub written : Appends old.held new.held (joined answers)

-- the LF that the last line lacks is added only where the input has ended and more bytes might have been taken
pub record Closes (taken closing : List ℕ) (new : Situation) : Type 0 where
  pub ended : IsAtEnd new.left
  pub fewer : length taken < most_taken
  pub before : List Entry
  pub tail : List ℕ
  pub cut : Cut taken before tail
  pub lacks : closing ≡ lacking tail

-- The entries in order were answered up to one whose answer was not written whole, and the node is in the state after
-- that one. The bytes are those that were taken, or, where the input ended, those and the LF that they lack.
pub record BrokeOff (old new : Situation) : Type 0 where
  pub taken : List ℕ
  pub takes : Consumes old.left new.left taken
  pub most : length taken ≤ most_taken
  pub closing : List ℕ
  pub closes : (closing ≡ []) ⊎ Closes taken closing new
  pub entries : List Entry
  pub answers : List (List ℕ)
  pub entry : Entry
  pub answer : List ℕ
  pub others : List Entry
  pub rest : List ℕ
  pub cut : Cut (taken ++ closing) ((entries ++ entry ∷ []) ++ others) rest
  pub run : Runs EntryTurn old.state (entries ++ entry ∷ []) (answers ++ answer ∷ []) new.state
  pub front : List ℕ
  pub back : List ℕ
  pub answer_is : answer ≡ front ++ back
  pub some : 0 < length back
  pub written : Appends old.held new.held (joined answers ++ front)

-- so far: what was taken, and what of it is at hand
pub record SoFar (old new : State) (left_before left_after held_before held_after : Option (List ℕ)) (count : ℕ) (phase : Phase) (hand : List ℕ) : Type 0 where
  pub taken : List ℕ
  pub takes : Consumes left_before left_after taken
  pub count_is : length taken ≡ count
  pub rest : List ℕ
  pub served : Served old new held_before held_after taken rest
  pub stands : Stands phase hand rest

-- the same, and the bytes at hand hold no whole command
pub record Paused (old new : State) (left_before left_after held_before held_after : Option (List ℕ)) (count : ℕ) (phase : Phase) (hand : List ℕ) : Type 0 where
  pub taken : List ℕ
  pub takes : Consumes left_before left_after taken
  pub count_is : length taken ≡ count
  pub rest : List ℕ
  pub served : Served old new held_before held_after taken rest
  pub stands : Stands phase hand rest
  pub no_more : BeginsNone rest
