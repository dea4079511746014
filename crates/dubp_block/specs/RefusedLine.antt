-- Which line of bytes that are no block is refused. Protocol: commands and answers.
use Rattle.std.specs.Prelude.{◌≡◌, ◌⊎◌, ℕ, ◌+◌, ◌≤◌, List, ◌++◌, length, take}
use Rattle.dubp_lines.specs.Lines.{split}
use Rattle.dubp_block.specs.declared.block.Block.{Block}
use Rattle.dubp_block.specs.Text.{IsBlock, block_lines}

-- the lines are the first lines of some block's text
pub record BeginBlock (lines : List (List ℕ)) : Type 0 where
  pub block : Block
  pub is : IsBlock block
  pub more : List (List ℕ)
  pub text : block_lines block ≡ lines ++ more

-- The number of the first line, from 1, with which the lines of the bytes begin no block any more; one more than there are lines
-- where all of them begin a block. Only what ends with LF is a line.
pub record IsRefusedLine (bytes : List ℕ) (line : ℕ) : Type 0 where
  pub taken : ℕ
  pub is : line ≡ taken + 1
  pub some : taken ≤ length (split bytes).0
  pub begins : BeginBlock (take taken (split bytes).0)
  pub ends : (taken ≡ length (split bytes).0) ⊎ (BeginBlock (take line (split bytes).0) → ⊥)
