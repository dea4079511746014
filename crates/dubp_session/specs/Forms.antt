-- The forms of the words of the command line, and the ends of a run that generates.
use Rattle.std.specs.Prelude.{ℕ, ◌≡◌, List, Option}
use Rattle.std.specs.Borrow.{Bor}
use Rattle.std.specs.Io.KnownBytes.{Appends}
use Rattle.dubp_outside.specs.Causes.{Rose}
use Rattle.dubp_outside.specs.Parts.{AppendsPart}
use Rattle.dubp_entries.specs.Run.{IsRun, Situation}
use Rattle.dubp_session.specs.Generating.{AsksFor, GeneratedAll, GeneratedNone, GeneratedPart}
use Rattle.dubp_session.specs.declared.form.Form.{Form}
use Rattle.dubp_session.specs.declared.form.Form.TheVariants.{Run, Gen, Other}
use Rattle.dubp_session.specs.declared.generating.GenEnding.{GenEnding}
use Rattle.dubp_session.specs.declared.generating.GenEnding.TheVariants.{Written, WriteFault, NoRoom}

-- the words are no gen with numbers
abbrev pub AskNothing : List (Bor (List ℕ)) → Type 0
AskNothing words = (n start : ℕ) → AsksFor words n start → ⊥

-- they are so with these numbers, and with no others
pub record AsksThis (words : List (Bor (List ℕ))) (n start : ℕ) : Type 0 where
  pub asks : AsksFor words n start
  pub other_form : IsRun words → ⊥
  pub only : (m x : ℕ) → AsksFor words m x → (m ≡ n) × (x ≡ start)

-- the words have this form, and no other
abbrev pub HasForm : List (Bor (List ℕ)) → Form → Type 0
HasForm words Run = IsRun words × AskNothing words
HasForm words (Gen n start) = AsksThis words n start
HasForm words Other = (IsRun words → ⊥) × AskNothing words

-- what stands after each ending
abbrev pub GenEnds : ℕ → ℕ → Situation → Situation → GenEnding → Type 0
GenEnds n start old new Written = GeneratedAll n start old new
GenEnds n start old new WriteFault = GeneratedPart n start old new
GenEnds n start old new NoRoom = GeneratedNone n start old new

-- how much of the text was written
abbrev pub IsWritten : Option (List ℕ) → Option (List ℕ) → List ℕ → GenEnding → Type 0
IsWritten before after text Written = Appends before after text
IsWritten before after text WriteFault = AppendsPart before after text
IsWritten before after text NoRoom = ⊥

-- which counts of the sink's faults rose
abbrev pub GenFaults : ℕ → ℕ → GenEnding → Type 0
GenFaults sink sink' Written = sink' ≡ sink
GenFaults sink sink' WriteFault = Rose sink sink'
GenFaults sink sink' NoRoom = sink' ≡ sink
