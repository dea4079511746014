-- What a command does to the branches, by what is handed of the frame. Protocol: the input; commands and answers.
use Rattle.std.specs.Prelude.{◌≡◌, ◌⊎◌, ℕ, ◌≤◌, List, [], length}
use Rattle.std.specs.Option.{MatchOption}
use Rattle.dubp_validity.specs.Rules.{longest_block}
use Rattle.dubp_replay.specs.Answers.{no_memory_answer}
use Rattle.dubp_replay.specs.declared.command.Command.{Command}
use Rattle.dubp_replay.specs.Turns.{Branches, BranchesTurn, Only, TakesMemory, frame_of}

-- Behind the line of this command these raw bytes may stand, of which the node is handed those: all of them, or none where they are
-- more than a block has.
abbrev pub IsHanded : Command → List ℕ → List ℕ → Type 0
IsHanded command bytes frame =
    MatchOption (frame_of command) ((bytes ≡ []) × (frame ≡ [])) (λ len. (length bytes ≡ len) × (len ≤ longest_block → frame ≡ bytes))

-- the turn of the command, or memory ran out, and nothing changes
abbrev pub BranchesTurnOrLack : Branches → Command → List ℕ → List ℕ → Branches → Type 0
BranchesTurnOrLack old command frame answer new =
    BranchesTurn old command frame answer new ⊎ (TakesMemory command × Only no_memory_answer old answer new)

-- the command takes its turn: whatever the bytes are of which these were handed
abbrev pub BranchesActs : Branches → Command → List ℕ → List ℕ → Branches → Type 0
BranchesActs old command frame answer new = (bytes : List ℕ) → IsHanded command bytes frame → BranchesTurnOrLack old command bytes answer new
