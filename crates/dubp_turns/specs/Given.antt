-- Commands that are given to the node of a chain that was made. Protocol: the generator.
use Rattle.std.specs.Prelude.{ℕ, List, [], length}
use Rattle.dubp_block.specs.declared.block.Block.{Block}
use Rattle.dubp_block.specs.Text.{block_text}
use Rattle.dubp_replay.specs.declared.command.Command.{Command}
use Rattle.dubp_replay.specs.declared.command.Command.TheVariants as command
use Rattle.dubp_replay.specs.Turns.{State, Runs, Turn}
use Rattle.dubp_drafts.specs.Drafting.{Given}

-- a command, and the raw bytes of its frame
abbrev pub verdict_given : Given → Command × List ℕ
verdict_given g = (command.Verdict g.0 g.1 g.2, [])

abbrev pub block_given : Block → Command × List ℕ
block_given b = (command.Block (length (block_text b)), block_text b)

-- the turn of such a command, for which there is memory
abbrev pub GivenTurn : State → Command × List ℕ → List ℕ → State → Type 0
GivenTurn old given answer new = Turn old given.0 given.1 answer new

-- each of the commands took its turn
pub record IsGivenAll (given : List (Command × List ℕ)) (old new : State) : Type 0 where
  pub answers : List (List ℕ)
  pub run : Runs GivenTurn old given answers new
