-- Answers that are remembered while the state stays as it is. Protocol: commands and answers.
use Rattle.std.specs.Prelude.{◌≡◌, ◌⊎◌, [], ℕ, List}
use Rattle.std.specs.List.{All, Contains}
use Rattle.dubp_replay.specs.Answers.{no_memory_answer}
use Rattle.dubp_replay.specs.Turns.{State}
use Rattle.dubp_entries.specs.Entries.{Line, IsWhole}
use Rattle.dubp_entries.specs.Turns.{EntryTurn}

-- a line, and what it was answered
pub record Reply : Type 0 where
  pub asked : List ℕ
  pub answer : List ℕ

abbrev pub reply : List ℕ → List ℕ → Reply
reply asked answer = record { asked = asked; answer = answer }

-- in this state the line is answered so, and the state stays
abbrev pub IsReply : State → Reply → Type 0
IsReply state one = IsWhole (Line one.asked) → EntryTurn state (Line one.asked) one.answer state

abbrev pub AreReplies : State → List Reply → Type 0
AreReplies state replies = All (IsReply state) replies

-- no answer is still to be written, and what is remembered is answered so in this state
abbrev pub IsSettled : State → List ℕ → List Reply → Type 0
IsSettled state gathered replies = (gathered ≡ []) × AreReplies state replies

-- what is remembered where a reply may have come: each stood there before, or is this one
abbrev pub Remembers : List Reply → Reply → List Reply → Type 0
Remembers old one new = All (λ r. Contains old r ⊎ (r ≡ one)) new

-- the answer says that there was no room
abbrev pub SaysNoRoom : List ℕ → Type 0
SaysNoRoom answer = answer ≡ no_memory_answer
