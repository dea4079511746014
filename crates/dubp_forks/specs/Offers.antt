-- What the call that stores a block says, as OFFER does. Protocol: commands and answers.
use Rattle.std.specs.Prelude.{◌≡◌, ◌<◌, ◌≤◌, true, false, List, [], ◌∷◌, ◌++◌, length, Result, Ok, Err, Option, Some, None, ℕ}
use Rattle.dubp_atoms.specs.declared.stamp.Stamp.{Stamp}
use Rattle.dubp_block.specs.declared.block.Block.{Block}
use Rattle.dubp_block.specs.Text.{stamp_of}
use Rattle.dubp_block.specs.RefusedLine.{IsRefusedLine}
use Rattle.dubp_rules.specs.declared.rule.Rule.{Rule}
use Rattle.dubp_rules.specs.declared.rule.Rule.TheVariants.{P01}
use Rattle.dubp_rules.specs.First.{IsFirst}
use Rattle.dubp_validity.specs.Rules.{HoldsRaw, IsTextOf}
use Rattle.dubp_replay.specs.Turns.{Branches, offer_rules, is_known, most_stored}
use Rattle.dubp_forks.specs.declared.refusals.OfferRefusal.{OfferRefusal}
use Rattle.dubp_forks.specs.declared.refusals.OfferRefusal.TheVariants.{Unread, Local, Known, Full, NoMemory}

-- the first of the rules before G51 that the bytes break on the chain as it is
abbrev pub FirstOffered : Branches → List ℕ → Option Rule → Type 0
FirstOffered s bytes broken = IsFirst (HoldsRaw s.verdicts s.chain bytes) offer_rules broken

-- the bytes are this block, which breaks none of them
pub record IsOffered (s : Branches) (bytes : List ℕ) (b : Block) : Type 0 where
  pub text : IsTextOf bytes b
  pub keeps : FirstOffered s bytes None

-- the block goes to the end of the store, or the first reason against it is named and the store stays
abbrev pub Offered : Branches → List ℕ → Result Stamp OfferRefusal → List Block → Type 0
Offered old bytes (Ok stamp) new =
    (b : Block) × IsOffered old bytes b × (stamp ≡ stamp_of b) × (is_known old stamp ≡ false) × (length old.store < most_stored) × (new ≡ old.store ++ b ∷ [])
Offered old bytes (Err (Unread line)) new = FirstOffered old bytes (Some P01) × IsRefusedLine bytes line × (new ≡ old.store)
Offered old bytes (Err (Local rule)) new = (b : Block) × IsTextOf bytes b × FirstOffered old bytes (Some rule) × (new ≡ old.store)
Offered old bytes (Err (Known stamp)) new =
    (b : Block) × IsOffered old bytes b × (stamp ≡ stamp_of b) × (is_known old stamp ≡ true) × (new ≡ old.store)
Offered old bytes (Err (Full held)) new =
    (b : Block) × IsOffered old bytes b × (is_known old (stamp_of b) ≡ false) × (held ≡ length old.store) × (most_stored ≤ held) × (new ≡ old.store)
Offered old bytes (Err NoMemory) new = new ≡ old.store
