-- A command that is given takes its turn.
use Rattle.std.proofs.Common.{ℕ, List, [], ◌∷◌, refl}
use Rattle.dubp_replay.specs.declared.command.Command.{Command}
use Rattle.dubp_replay.specs.Turns.{State}
use Rattle.dubp_turns.specs.Given.{GivenTurn, IsGivenAll}

pub given_one : (given : Command × List ℕ) (answer : List ℕ) (old new : State) → GivenTurn old given answer new → IsGivenAll (given ∷ []) old new
given_one given answer old new turn = record { answers = answer ∷ []; run = (new, turn, refl) }
