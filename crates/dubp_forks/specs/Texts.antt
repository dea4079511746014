-- What a stored block is kept as. Protocol: commands and answers.
use Rattle.std.specs.Prelude.{◌≡◌, ℕ, List, Option}
use Rattle.dubp_atoms.specs.declared.stamp.Stamp.{Stamp}
use Rattle.dubp_block.specs.declared.block.Block.{Block}
use Rattle.dubp_block.specs.Text.{IsBlock, block_text}
use Rattle.dubp_replay.specs.Turns.{previous_stamp}

-- the bytes are the text of the block, which is in range, and this is the stamp before it
pub record IsKeptAs (text : List ℕ) (before : Option Stamp) (b : Block) : Type 0 where
  pub range : IsBlock b
  pub text_is : text ≡ block_text b
  pub before_is : before ≡ previous_stamp b
