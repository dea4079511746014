-- Laws of turns, each of which a public function without a body promises. Protocol: commands and answers, choice.
use Rattle.std.specs.Prelude.{◌≡◌, ℕ, Bool, true, false, not, List, [], ◌∷◌, map, filter, zip, Option, Some, None, ⊤}
use Rattle.std.specs.List.{AllByRecursion, list_any}
use Rattle.std.specs.Option.{option_map}
use Rattle.dubp_atoms.specs.Same.{same_text}
use Rattle.dubp_atoms.specs.declared.stamp.Stamp.{Stamp}
use Rattle.dubp_block.specs.declared.block.Block.{Block}
use Rattle.dubp_block.specs.Text.{stamp_of}
use Rattle.dubp_resolve.specs.Choice.{choice, is_among}
use Rattle.dubp_resolve.specs.Known.{AreOffers}
use Rattle.dubp_resolve.specs.Resolve.{HasOneResult, IsDetermined, Line, Switched, Failed}
use Rattle.dubp_replay.specs.Answers.{bad_answer, no_memory_answer}
use Rattle.dubp_replay.specs.declared.failure.Failure.{Failure}
use Rattle.dubp_replay.specs.declared.command.Command.{Command}
use Rattle.dubp_replay.specs.Turns.{Asked, Fails, IsPath, IsServed, Only, ResolvesBy, Runs, State, Succeeds, Turn, branches_of, choices_of}

-- a switch has one result
abbrev pub SwitchesOneWay : Type 0
SwitchesOneWay = HasOneResult (λ (f : Failure). f.tip) (λ f. f.at) choices_of Succeeds Fails

-- one list of lines, one state
abbrev pub ResolvesOneWay : Type 0
ResolvesOneWay = IsDetermined (λ (f : Failure). f.tip) (λ f. f.at) choices_of Succeeds Fails

abbrev pub IsFailure : Line Failure → Type 0
IsFailure (Switched tip) = ⊥
IsFailure (Failed f) = ⊤

-- failures alone change nothing but the failures that are noted
abbrev pub FailingKeepsAll : Type 0
FailingKeepsAll =
    (old : State) (lines : List (Line Failure)) (new : State) → ResolvesBy old lines new → AllByRecursion IsFailure lines → (branches_of new ≡ branches_of old) × (new.auto ≡ old.auto)

-- where a branch failed at one of these blocks, none that goes on from them is the choice
abbrev pub FailedIsNotTried : Type 0
FailedIsNotTried =
    (s : State) → AreOffers (choices_of s).offers → (tip : Stamp) (path : List Block) (end : Option Stamp) → IsPath s.store tip path end
    → list_any (λ b. is_among (map (λ (f : Failure). f.at) s.failures) (stamp_of b)) path ≡ true → option_map (λ o. o.stamp) (choice (choices_of s)) ≡ Some tip → ⊥

-- no two of these failures have one block
abbrev pub AreApartAt : List Failure → Type 0
AreApartAt [] = ⊤
AreApartAt (f ∷ failures) = (is_among (map (λ (g : Failure). g.at) failures) f.at ≡ false) × AreApartAt failures

-- and none comes to have one
abbrev pub FailuresStayApart : Type 0
FailuresStayApart =
    (old : State) (lines : List (Line Failure)) (new : State) → AreOffers (choices_of old).offers → ResolvesBy old lines new → AreApartAt old.failures → AreApartAt new.failures

-- two turns of one command with one frame from one state have one answer, and lead to one state
abbrev pub TurnsHaveOneAnswer : Type 0
TurnsHaveOneAnswer =
    (old : State) (command : Command) (frame answer answer' : List ℕ) (new new' : State)
    → Turn old command frame answer new → Turn old command frame answer' new' → (answer ≡ answer') × (new ≡ new')

-- ---- runs, and the want of memory in them

-- what stands in the input is answered as where memory does not run out
abbrev pub IsServedInFull : State → Asked → List ℕ → State → Type 0
IsServedInFull old None answer new = Only bad_answer old answer new
IsServedInFull old (Some (command, frame)) answer new = Turn old command frame answer new

abbrev pub is_no_memory : List ℕ → Bool
is_no_memory answer = same_text answer no_memory_answer

-- what was asked and its answer, one after another, without what was answered NOMEM
abbrev pub served : List Asked → List (List ℕ) → List (Asked × List ℕ)
served asked answers = filter (λ p. not (is_no_memory p.1)) (zip asked answers)

-- no turn is answered NOMEM
abbrev pub TurnsHaveOtherAnswers : Type 0
TurnsHaveOtherAnswers =
    (old : State) (command : Command) (frame answer : List ℕ) (new : State) → Turn old command frame answer new → is_no_memory answer ≡ false

-- What was not answered NOMEM, asked alone, is answered the same where memory does not run out, and leads to the same state.
abbrev pub WithoutRefused : Type 0
WithoutRefused =
    (old : State) (asked : List Asked) (answers : List (List ℕ)) (new : State) → Runs IsServed old asked answers new
    → Runs IsServedInFull old (map (λ p. p.0) (served asked answers)) (map (λ p. p.1) (served asked answers)) new

-- where memory does not run out, two runs of what was asked have the same answers and lead to one state
abbrev pub RunsHaveOneResult : Type 0
RunsHaveOneResult =
    (old : State) (asked : List Asked) (answers answers' : List (List ℕ)) (new new' : State)
    → Runs IsServedInFull old asked answers new → Runs IsServedInFull old asked answers' new' → (answers ≡ answers') × (new ≡ new')
