-- What contracts see of the blocks that are kept, and what holds of them at any time. Protocol: tables; commands and answers.
use Rattle.std.specs.Prelude.{◌≡◌, ◌≤◌, ◌<◌, ◌+◌, ◌-◌, ◌*◌, ℕ, zero, suc, List, [], ◌∷◌, length, drop, take, min, Option, Some, None, option_and_then, ⊤}
use Rattle.std.specs.List.{AllByRecursion}
use Rattle.dubp_moving.specs.Chains.{Stands as StandsAlong, Waits}
use Rattle.dubp_moving.specs.Others.{Others}
use Rattle.dubp_params.specs.declared.params.Params.{Params}
use Rattle.dubp_params.specs.Ranges.{IsInRange}
use Rattle.dubp_block.specs.declared.block.Block.{Block}
use Rattle.dubp_block.specs.Text.{IsBlock}
use Rattle.dubp_chain.specs.declared.head.Head.{Head}
use Rattle.dubp_chain.specs.Chains.{Chain, first_block, params}
use Rattle.dubp_chain.specs.Heads.{head_of, heads_of}
use Rattle.dubp_head.specs.OfValidity.{IsSound, IsShort, KeepsUnsigned}
use Rattle.dubp_head.specs.OfValidity.{records}
use Rattle.dubp_local.specs.Local.{AreParamsOf}
use Rattle.dubp_head.specs.HeadsStates.{HeadsState, AreOver}
use Rattle.dubp_head.specs.Following.{AreHeads, Follows}

-- before blocks were held: the chain, newest block first, and how many of its blocks could be taken off; and how many of them were
pub record Out : Type 0 where
  pub chain : Chain
  pub kept : ℕ
  pub taken : ℕ

-- the chain, newest block first, how many of its blocks can be taken off, and what was before blocks were held, where some are
pub record KeptChain : Type 0 where
  pub chain : Chain
  pub kept : ℕ
  pub out : Option Out

abbrev pub most_kept : ℕ
most_kept = 100

-- how many of so many states are kept: all of them while blocks are held
abbrev pub kept_of : Option Out → ℕ → ℕ
kept_of None n = min n most_kept
kept_of (Some o) n = n

-- each block is one in range
abbrev pub AreBlocks : Chain → Type 0
AreBlocks c = AllByRecursion IsBlock c

-- the parameters of a chain that has blocks are in range
abbrev pub IsSteered : Chain → Type 0
IsSteered [] = ⊤
IsSteered (b ∷ c) = IsInRange (params (b ∷ c))

-- the parameters that the first block of a chain states
abbrev pub stated_params : Chain → Option Params
stated_params c = option_and_then (λ b. b.params) (first_block c)

-- each block breaks no rule on those before it but such as read verdicts, and the heads are those of the chain
pub record IsKnown (c : Chain) (heads : HeadsState) : Type 0 where
  pub sound : IsSound c
  pub blocks : AreBlocks c
  pub are : heads.list ≡ heads_of c
  pub follow : AreHeads (params c) heads.list
  pub over : AreOver heads (params c)
  pub steered : IsSteered c
  pub stated : AreParamsOf (stated_params c) c

-- heads that came back would be over as many blocks as the parameters of the chain say; the empty chain has none
abbrev pub AreWide : HeadsState → Chain → Type 0
AreWide heads [] = ⊤
AreWide heads (b ∷ c) = (params (b ∷ c)).median_time_blocks ≤ heads.width

-- the heads of all blocks of the chain can come back without memory
pub record HasRoom (heads : HeadsState) (c : Chain) : Type 0 where
  pub heads_fit : length c ≤ heads.room
  pub wide : AreWide heads c

-- each block breaks no rule on those before it but such as read verdicts, and the heads of the blocks follow one another
pub record MayComeBack (c : Chain) : Type 0 where
  pub sound : IsSound c
  pub blocks : AreBlocks c
  pub follow : AreHeads (params c) (heads_of c)
  pub steered : IsSteered c
  pub stated : AreParamsOf (stated_params c) c

-- Blocks are held: tables that keep so many states, and have so many ahead, wait for the chain from which they were taken off. Their
-- heads are there, newest first, and there is room for all its blocks.
pub record IsOut (waits : Chain → ℕ → Type 0) (depth ahead : ℕ) (heads : HeadsState) (behind : List Head) (c : Chain) (room : ℕ) (o : Out) : Type 0 where
  pub waits_is : waits o.chain o.taken
  pub ahead_is : ahead ≡ o.taken
  pub comes : MayComeBack o.chain
  pub behind_are : behind ≡ take o.taken (heads_of o.chain)
  pub even : length c + o.kept ≡ length o.chain + depth
  pub few : o.kept ≤ most_kept
  pub within : o.taken ≤ length o.chain
  pub room_is : length o.chain ≤ room
  pub heads_room : HasRoom heads o.chain

-- what more holds while blocks are held, and where none is
abbrev pub Stands : (Chain → ℕ → Type 0) → ℕ → ℕ → HeadsState → List Head → Chain → ℕ → Option Out → Type 0
Stands waits depth ahead heads behind c room None = (depth ≤ most_kept) × (ahead ≡ 0)
Stands waits depth ahead heads behind c room (Some o) = IsOut waits depth ahead heads behind c room o

-- and tables that keep so many states stand for it
pub record AreKept (stands : Chain → Type 0) (waits : Chain → ℕ → Type 0) (depth ahead : ℕ) (heads : HeadsState) (behind : List Head) (c : Chain) (room : ℕ) (out : Option Out) : Type 0 where
  pub stands_is : stands c
  pub fits : depth ≤ length c
  pub known : IsKnown c heads
  pub heads_room : HasRoom heads c
  pub out_is : Stands waits depth ahead heads behind c room out

-- the block, whose head this is, breaks no rule on the chain but such as read verdicts, and these are the parameters of both
pub record MayJoin (c : Chain) (b : Block) (h : Head) (p : Params) : Type 0 where
  pub text : IsBlock b
  pub short : IsShort b
  pub keeps : KeepsUnsigned c b
  pub head : head_of (b ∷ c) ≡ Some h
  pub same : p ≡ params (b ∷ c)
  pub follows : Follows (params (b ∷ c)) (heads_of c) h
  pub steered : IsInRange (params (b ∷ c))
  pub stated : AreParamsOf (stated_params (b ∷ c)) (b ∷ c)

-- how many steps a block adds at most
abbrev pub most_steps : Chain → Block → ℕ
most_steps c b = 8 * length (records c b) + 16

-- how many the last block of a chain adds at most
abbrev pub last_steps : Chain → ℕ
last_steps [] = 0
last_steps (b ∷ c) = most_steps c b

-- how many the last so many blocks of a chain add at most, one with the other
abbrev pub steps_of_last : ℕ → Chain → ℕ
steps_of_last zero c = 0
steps_of_last (suc count) [] = 0
steps_of_last (suc count) (b ∷ c) = most_steps c b + steps_of_last count c

-- how many those add at most that were taken off the chain
abbrev pub steps_of_out : Option Out → ℕ
steps_of_out None = 0
steps_of_out (Some o) = steps_of_last o.taken o.chain

module _ {N : Type 0} (is : N → Chain → Type 0) where
  -- a state is that of the chain, and at most so many keys were set to it as the last block of the chain adds
  abbrev pub Fits : N × ℕ → Chain → Type 0
  Fits x c = is x.0 c × (x.1 ≤ last_steps c)

  -- tables stand for the chain, within the bound: the state now, and those that are kept
  abbrev pub StandsWithin : N → ℕ → List (N × ℕ) → Chain → Type 0
  StandsWithin now count kept c = StandsAlong Fits (now, count) kept c

  -- tables wait for the chain from which so many blocks were taken off, within the bound
  abbrev pub WaitsWithin : Others N → Chain → ℕ → Type 0
  WaitsWithin others o i = Waits Fits others.ahead o i × (0 < i → is others.root (drop i o))

  -- what is ahead is what is out
  abbrev pub HasOut : Others N → Option Out → Type 0
  HasOut others None = length others.ahead ≡ 0
  HasOut others (Some o) = WaitsWithin others o.chain o.taken

  -- the states of tables are those of the chain: the state now is that of the whole, those that are kept are those of the chain without its
  -- last blocks, as many as can be taken off, and those ahead are what is out; each within the bound
  pub record AreStates (now : N) (count : ℕ) (others : Others N) (s : KeptChain) : Type 0 where
    pub stands : StandsWithin now count others.kept s.chain
    pub as_many : length others.kept ≡ s.kept
    pub ahead : HasOut others s.out

-- the block joins the chain
abbrev pub with_block : Block → KeptChain → KeptChain
with_block b s = record { chain = b ∷ s.chain; kept = kept_of s.out (s.kept + 1); out = s.out }

-- the last so many blocks leave the chain
abbrev pub without_last : ℕ → KeptChain → KeptChain
without_last count s = record { chain = drop count s.chain; kept = s.kept - count; out = s.out }

-- the held blocks, newest first, are those that are out
abbrev pub IsHeldBy : Chain → Option Out → Type 0
IsHeldBy held None = ⊥
IsHeldBy held (Some o) = held ≡ take o.taken o.chain

-- the chain is as right after they were taken off
abbrev pub IsAsHeld : Chain → Option Out → Type 0
IsAsHeld c None = ⊥
IsAsHeld c (Some o) = c ≡ drop o.taken o.chain

-- all is as before they were taken off
abbrev pub IsAsBefore : KeptChain → Option Out → Type 0
IsAsBefore s None = ⊥
IsAsBefore s (Some o) = s ≡ record { chain = o.chain; kept = o.kept; out = None }

-- the block is handed back, and all is as before
pub record HandsBack (b back : Block) (old new : KeptChain) : Type 0 where
  pub block : back ≡ b
  pub same : new ≡ old
