-- The turn of a command as the node takes it: by what it is handed of the frame. Protocol: the input; commands and answers.
use Rattle.std.specs.Prelude.{◌≡◌, ◌⊎◌, ℕ, List, Some}
use Rattle.dubp_atoms.specs.Same.{Text}
pub use Rattle.dubp_turns.specs.BranchActs.{IsHanded}
use Rattle.dubp_replay.specs.Answers.{no_memory_answer}
use Rattle.dubp_replay.specs.declared.command.Command.{Command}
use Rattle.dubp_replay.specs.OfForging.{Doc}
use Rattle.dubp_replay.specs.Turns.{Branches, State, IsForgeAnswer, IsServed, OfferGoesOn, Only, PendTurn}

-- the node takes one turn: whatever the bytes are of which it was handed these
abbrev pub Acts : State → Command → List ℕ → List ℕ → State → Type 0
Acts old command frame answer new = (bytes : List ℕ) → IsHanded command bytes frame → IsServed old (Some (command, bytes)) answer new

-- OFFER with these raw bytes, which are not too many, or memory ran out
abbrev pub OfferActs : State → List ℕ → List ℕ → State → Type 0
OfferActs old frame answer new = OfferGoesOn old frame answer new ⊎ Only no_memory_answer old answer new

-- PEND with these raw bytes, which are not too many, or memory ran out
abbrev pub PendActs : State → List ℕ → List ℕ → State → Type 0
PendActs old frame answer new = PendTurn old frame answer new ⊎ Only no_memory_answer old answer new

-- FORGE by this key at this time, of these documents, is answered so, or memory ran out
abbrev pub Forges : Branches → List Doc → Text → ℕ → List ℕ → Type 0
Forges b pool key time answer =
    IsForgeAnswer (record { verdicts = b.verdicts; chain = b.chain; issuer = key; time = time; pool = pool }) b.chain answer
    ⊎ (answer ≡ no_memory_answer)
