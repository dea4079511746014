-- The parts of what `switch` says, each of the function that does it.
use Rattle.std.specs.Prelude.{◌≡◌, ℕ, ◌+◌, ◌-◌, ◌<◌, ◌≤◌, List, ◌++◌, drop, filter, length, map, min, not, reverse, take, Option, Some, None, ⊤}
use Rattle.std.specs.List.{AllByRecursion}
use Rattle.dubp_atoms.specs.declared.stamp.Stamp.{Stamp}
use Rattle.dubp_block.specs.declared.block.Block.{Block}
use Rattle.dubp_block.specs.Text.{stamp_of}
use Rattle.dubp_chain.specs.Chains.{Chain}
use Rattle.dubp_verdict.specs.Verdicts.{Verdicts}
use Rattle.dubp_validity.specs.Rules.{FirstBroken}
use Rattle.dubp_ledger.specs.OfKept.{KeptChain}
use Rattle.dubp_replay.specs.Turns.{BreaksAt, IsAcceptedOn, IsPath, is_on, most_stored, stored}
use Rattle.dubp_forks.specs.Entries.{Entries, entries_of}
use Rattle.dubp_forks.specs.declared.refusals.SwitchRefusal.{SwitchRefusal}
use Rattle.dubp_forks.specs.declared.refusals.SwitchRefusal.TheVariants.{TooDeep, Full, Refused, NoMemory}

-- these are the stamps of the path from a stamp, newest first, and where it ends
pub record LeadsTo (store : List Block) (stamp : Stamp) (keys : List Stamp) (end : Option Stamp) : Type 0 where
  pub path : List Block
  pub stamps : keys ≡ map stamp_of path
  pub is : IsPath store stamp path end

-- these are the stamps of stored blocks
pub record IsLaid (store : List Block) (keys : List Stamp) (path : List Block) : Type 0 where
  pub stamps : keys ≡ map stamp_of path
  pub each : AllByRecursion (λ b. stored store (stamp_of b) ≡ Some b) path

-- these blocks were accepted one after another
pub record IsOnward (v : Verdicts) (old : KeptChain) (path : List Block) (new : KeptChain) : Type 0 where
  pub chain : new.chain ≡ path ++ old.chain
  pub kept : new.kept ≡ old.kept + length path
  pub out : new.out ≡ old.out
  pub passed : IsAcceptedOn v old.chain path

-- why a block was not accepted, which is named by its stamp
abbrev pub IsWhy : Verdicts → Chain → Block → SwitchRefusal → Type 0
IsWhy v c b (Refused at rule) = (at ≡ stamp_of b) × FirstBroken v c b (Some rule)
IsWhy v c b NoMemory = ⊤
IsWhy v c b other = ⊥

-- why a path was not accepted
abbrev pub IsWhyNot : Verdicts → Chain → List Block → SwitchRefusal → Type 0
IsWhyNot v c path (Refused at rule) = (b : Block) × (at ≡ stamp_of b) × BreaksAt v c path b rule
IsWhyNot v c path NoMemory = ⊤
IsWhyNot v c path other = ⊥

-- the path stands on what is left of the chain, and the blocks that were reversed go to the end of the store
pub record HasSwitched (v : Verdicts) (old : KeptChain) (store path : List Block) (count : ℕ) (rows : Entries) (new : KeptChain) : Type 0 where
  pub passed : IsAcceptedOn v (drop count old.chain) path
  pub entries : rows ≡ entries_of (filter (λ b. not (is_on path b)) store ++ reverse (take count old.chain))
  pub chain : new.chain ≡ path ++ drop count old.chain
  pub kept : new.kept ≡ min ((old.kept - count) + length path) 100
  pub out : new.out ≡ None

-- more blocks would be reversed than can be, or stored than can be
abbrev pub IsTooMuch : ℕ → ℕ → ℕ → SwitchRefusal → Type 0
IsTooMuch kept count then (TooDeep told) = (kept < count) × (told ≡ kept)
IsTooMuch kept count then (Full held) = (count ≤ kept) × (held ≡ then) × (most_stored < held)
IsTooMuch kept count then other = ⊥
