-- Blocks on their way from a chain and back to it, with their heads and the tables.
use Rattle.std.specs.Prelude.{◌≡◌, ◌≤◌, ◌++◌, ℕ, List, length, drop, take, reverse}
use Rattle.dubp_block.specs.declared.block.Block.{Block}
use Rattle.dubp_chain.specs.declared.head.Head.{Head}
use Rattle.dubp_chain.specs.Chains.{Chain, params}
use Rattle.dubp_chain.specs.Heads.{heads_of}
use Rattle.dubp_head.specs.HeadsStates.{HeadsState, AreOver}
use Rattle.dubp_kept.specs.KeptChain.{HasRoom, MayComeBack}

-- The last so many blocks of the chain o are held, newest first, and their heads; the others stand, oldest first. The tables have as
-- many states ahead.
pub record HasMoved (stands : Chain → Type 0) (waits : Chain → ℕ → Type 0) (ahead : ℕ) (heads : HeadsState) (behind : List Head) (blocks held : List Block) (o : Chain) (count : ℕ) : Type 0 where
  pub stands_is : stands (drop count o)
  pub waits_is : waits o count
  pub ahead_is : ahead ≡ count
  pub blocks_are : reverse blocks ≡ drop count o
  pub held_are : held ≡ take count o
  pub heads_are : heads.list ≡ drop count (heads_of o)
  pub behind_are : behind ≡ take count (heads_of o)
  pub over : AreOver heads (params o)
  pub within : count ≤ length o

-- The held blocks, newest first, may come back behind those that stand, oldest first: there is room for them and for their heads.
pub record MayReturn (stands : Chain → Type 0) (waits : Chain → ℕ → Type 0) (ahead : ℕ) (heads : HeadsState) (behind : List Head) (blocks held : List Block) (room : ℕ) : Type 0 where
  pub moved : HasMoved stands waits ahead heads behind blocks held (held ++ reverse blocks) (length held)
  pub comes : MayComeBack (held ++ reverse blocks)
  pub fits : length (held ++ reverse blocks) ≤ room
  pub heads_room : HasRoom heads (held ++ reverse blocks)
