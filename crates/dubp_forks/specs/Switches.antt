-- What the call that switches to a branch says, as SWITCH does. Protocol: commands and answers.
use Rattle.std.specs.Prelude.{◌≡◌, ◌+◌, ◌-◌, ◌<◌, ◌≤◌, true, ℕ, List, length, drop, is_some, Result, Ok, Err, Option, Some, None}
use Rattle.dubp_atoms.specs.declared.stamp.Stamp.{Stamp}
use Rattle.dubp_block.specs.declared.block.Block.{Block}
use Rattle.dubp_block.specs.Text.{stamp_of}
use Rattle.dubp_chain.specs.Chains.{Chain}
use Rattle.dubp_ledger.specs.OfKept.{steps_of_last}
use Rattle.dubp_replay.specs.Turns.{Branches, stored, IsPath, blocks_behind, switched, IsAcceptedOn, BreaksAt, most_stored}
use Rattle.dubp_forks.specs.declared.refusals.SwitchRefusal.{SwitchRefusal}
use Rattle.dubp_forks.specs.declared.refusals.SwitchRefusal.TheVariants.{Unknown, Detached, TooDeep, Full, Refused, NoMemory}

-- the path from a stored stamp, newest block first, and where it ends
pub record IsAlong (s : Branches) (stamp : Stamp) (path : List Block) (end : Option Stamp) : Type 0 where
  pub some : is_some (stored s.store stamp) ≡ true
  pub is : IsPath s.store stamp path end

-- so many blocks of the chain stand behind the ancestor of the path
pub record BranchesOff (s : Branches) (stamp : Stamp) (path : List Block) (count : ℕ) : Type 0 where
  pub end : Option Stamp
  pub along : IsAlong s stamp path end
  pub behind : blocks_behind s.chain end ≡ Some count

-- so many blocks would be stored behind the switch
abbrev pub stored_then : Branches → List Block → ℕ → ℕ
stored_then s path count = (length s.store - length path) + count

-- so many can be reversed, and stored in place of the path
pub record MayTry (s : Branches) (stamp : Stamp) (path : List Block) (count : ℕ) : Type 0 where
  pub goes : BranchesOff s stamp path count
  pub deep : count ≤ s.kept
  pub fits : stored_then s path count ≤ most_stored

-- the steps from the first number to the second are at most those that the blocks may add which are taken off, and those of the path, which is accepted and stands
-- last in the chain then
pub record TakesFew (old : Branches) (stamp : Stamp) (then : Chain) (before after : ℕ) : Type 0 where
  pub path : List Block
  pub count : ℕ
  pub goes : MayTry old stamp path count
  pub few : after ≤ before + (steps_of_last count old.chain + steps_of_last (length path) then)

-- the path is accepted whole, or the first reason against it is named and nothing changes
abbrev pub Switched : Branches → Stamp → Result (Unit {0}) SwitchRefusal → Branches → Type 0
Switched old stamp (Ok done) new =
    (path : List Block) × (count : ℕ) × MayTry old stamp path count × IsAcceptedOn old.verdicts (drop count old.chain) path × (new ≡ switched old path count)
Switched old stamp (Err Unknown) new = (stored old.store stamp ≡ None) × (new ≡ old)
Switched old stamp (Err (Detached at)) new =
    (path : List Block) × IsAlong old stamp path (Some at) × (blocks_behind old.chain (Some at) ≡ None) × (new ≡ old)
Switched old stamp (Err (TooDeep kept)) new =
    (path : List Block) × (count : ℕ) × BranchesOff old stamp path count × (old.kept < count) × (kept ≡ old.kept) × (new ≡ old)
Switched old stamp (Err (Full held)) new =
    (path : List Block) × (count : ℕ) × BranchesOff old stamp path count × (count ≤ old.kept) × (held ≡ stored_then old path count) × (most_stored < held) × (new ≡ old)
Switched old stamp (Err (Refused at rule)) new =
    (path : List Block) × (count : ℕ) × MayTry old stamp path count × (b : Block) × (at ≡ stamp_of b) × BreaksAt old.verdicts (drop count old.chain) path b rule × (new ≡ old)
Switched old stamp (Err NoMemory) new = new ≡ old
