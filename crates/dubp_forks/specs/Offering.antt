-- The parts of what `offer` says, each of the function that does it.
use Rattle.std.specs.Prelude.{◌≡◌, ◌<◌, ◌≤◌, true, false, List, [], ◌∷◌, ◌++◌, length, Result, Ok, Err, Option, Some, None}
use Rattle.dubp_atoms.specs.declared.stamp.Stamp.{Stamp}
use Rattle.dubp_block.specs.declared.block.Block.{Block}
use Rattle.dubp_block.specs.Text.{stamp_of}
use Rattle.dubp_rules.specs.declared.rule.Rule.{Rule}
use Rattle.dubp_rules.specs.declared.rule.Rule.TheVariants.{X01, P01}
use Rattle.dubp_rules.specs.First.{IsFirst}
use Rattle.dubp_validity.specs.Rules.{Holds}
use Rattle.dubp_ledger.specs.OfLocal.{local_rules}
use Rattle.dubp_replay.specs.Turns.{Branches, is_known, most_stored}
use Rattle.dubp_forks.specs.declared.refusals.OfferRefusal.{OfferRefusal}
use Rattle.dubp_forks.specs.declared.refusals.OfferRefusal.TheVariants.{Unread, Local, Known, Full, NoMemory}

-- the first of the rules before G51 that the block breaks
abbrev pub FirstLocal : Branches → Block → Option Rule → Type 0
FirstLocal s b broken = IsFirst (Holds s.verdicts s.chain b) (X01 ∷ P01 ∷ local_rules) broken

-- a block that breaks none goes to the end of the store, unless it is known or the store is full
abbrev pub Added : Branches → Block → Result Stamp OfferRefusal → List Block → Type 0
Added old b (Ok stamp) new = (stamp ≡ stamp_of b) × (is_known old stamp ≡ false) × (length old.store < most_stored) × (new ≡ old.store ++ b ∷ [])
Added old b (Err (Known stamp)) new = (stamp ≡ stamp_of b) × (is_known old stamp ≡ true) × (new ≡ old.store)
Added old b (Err (Full held)) new = (is_known old (stamp_of b) ≡ false) × (held ≡ length old.store) × (most_stored ≤ held) × (new ≡ old.store)
Added old b (Err NoMemory) new = new ≡ old.store
Added old b (Err (Unread line)) new = ⊥
Added old b (Err (Local rule)) new = ⊥

-- a block is added, or the first rule that it breaks is named
abbrev pub Checked : Branches → Block → Result Stamp OfferRefusal → List Block → Type 0
Checked old b (Ok stamp) new = FirstLocal old b None × Added old b (Ok stamp) new
Checked old b (Err (Local rule)) new = FirstLocal old b (Some rule) × (new ≡ old.store)
Checked old b (Err (Known stamp)) new = FirstLocal old b None × Added old b (Err (Known stamp)) new
Checked old b (Err (Full held)) new = FirstLocal old b None × Added old b (Err (Full held)) new
Checked old b (Err NoMemory) new = new ≡ old.store
Checked old b (Err (Unread line)) new = ⊥
