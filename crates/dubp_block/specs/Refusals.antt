-- What a refusal says of the bytes that were to be a block.
use Rattle.std.specs.Prelude.{ℕ, List, ⊤}
use Rattle.dubp_block.specs.RefusedLine.{IsRefusedLine}
use Rattle.dubp_block.specs.declared.refusal.ReadRefusal.{ReadRefusal}
use Rattle.dubp_block.specs.declared.refusal.ReadRefusal.TheVariants.{NotABlock, NoMemory}

-- where they are no block, the line is the refused one
abbrev pub NamesLine : List ℕ → ReadRefusal → Type 0
NamesLine bytes (NotABlock line) = IsRefusedLine bytes line
NamesLine bytes NoMemory = ⊤
