-- What private contracts see of the map of stored blocks: its entries, in their order.
use Rattle.std.specs.Prelude.{◌≡◌, List, [], ◌∷◌, map}
use Rattle.dubp_atoms.specs.declared.stamp.Stamp.{Stamp}
use Rattle.dubp_block.specs.declared.block.Block.{Block}
use Rattle.dubp_block.specs.Text.{stamp_of}
use Rattle.dubp_forks.specs.Stores.{AreStored}

abbrev pub Entries : Type 0
Entries = List (Stamp × Block)

-- the entry of a block
abbrev pub entry_of : Block → Stamp × Block
entry_of b = (stamp_of b, b)

-- the entries of a store
abbrev pub entries_of : List Block → Entries
entries_of store = map entry_of store

abbrev pub blocks_in : Entries → List Block
blocks_in [] = []
blocks_in ((stamp, b) ∷ entries) = b ∷ blocks_in entries

-- each block stands under its stamp, and the blocks may stand in a store
pub record AreKept (entries : Entries) : Type 0 where
  pub whole : entries ≡ entries_of (blocks_in entries)
  pub stored : AreStored (blocks_in entries)
