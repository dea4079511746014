-- What is said of a block that is offered, as what is said of its bytes.
use Rattle.std.proofs.Common.{◌≡◌, ◌≤◌, [], ◌∷◌, length, List, Option, Some, None, Result, Ok, Err, subst, sym, refl, ℕ}
use Rattle.dubp_atoms.specs.declared.stamp.Stamp.{Stamp}
use Rattle.dubp_block.specs.declared.block.Block.{Block}
use Rattle.dubp_block.specs.RefusedLine.{IsRefusedLine}
use Rattle.dubp_rules.specs.declared.rule.Rule.{Rule}
use Rattle.dubp_rules.specs.declared.rule.Rule.TheVariants.{X01, P01}
use Rattle.dubp_rules.specs.First.{IsFirst}
use Rattle.dubp_rules.proofs.FirstLaws.{IsFirst_from_FirstOf, FirstOf_from_IsFirst, FirstOf_same}
use Rattle.dubp_ledger.specs.OfLocal.{local_rules}
use Rattle.dubp_validity.specs.Rules.{Holds, HoldsRaw, IsTextOf, longest_block}
use Rattle.dubp_replay.specs.Turns.{Branches, offer_rules}
use Rattle.dubp_forks.specs.Offering.{Added, Checked, FirstLocal}
use Rattle.dubp_forks.specs.Offers.{FirstOffered, Offered}
use Rattle.dubp_forks.specs.declared.refusals.OfferRefusal.{OfferRefusal}
use Rattle.dubp_forks.specs.declared.refusals.OfferRefusal.TheVariants.{Unread, Local, Known, Full, NoMemory}

local_are : offer_rules ≡ X01 ∷ P01 ∷ local_rules
local_are = refl

module _ (s : Branches) (bytes : List ℕ) (b : Block) (text : IsTextOf bytes b) (only : (d : Block) → IsTextOf bytes d → b ≡ d) (short : length bytes ≤ longest_block) where
  to_raw : (r : Rule) → Holds s.verdicts s.chain b r → HoldsRaw s.verdicts s.chain bytes r
  to_raw X01 h = short
  to_raw P01 h = (b, text)
  to_raw r h = λ d t. let P : Block → Type 0 = λ x. Holds s.verdicts s.chain x r in subst P (only d t) h

  from_raw : (r : Rule) → HoldsRaw s.verdicts s.chain bytes r → Holds s.verdicts s.chain b r
  from_raw X01 h = tt
  from_raw P01 h = tt
  from_raw r h = h b text

  first_raw : (rules : List Rule) (broken : Option Rule) → IsFirst (Holds s.verdicts s.chain b) rules broken → IsFirst (HoldsRaw s.verdicts s.chain bytes) rules broken
  first_raw rules broken f =
      IsFirst_from_FirstOf (HoldsRaw s.verdicts s.chain bytes) rules broken
      (FirstOf_same (Holds s.verdicts s.chain b) (HoldsRaw s.verdicts s.chain bytes) to_raw from_raw rules broken (FirstOf_from_IsFirst (Holds s.verdicts s.chain b) rules broken f))

  first_offered : (broken : Option Rule) → FirstLocal s b broken → FirstOffered s bytes broken
  first_offered broken f =
      subst (λ (rules : List Rule). IsFirst (HoldsRaw s.verdicts s.chain bytes) rules broken) (sym local_are) (first_raw (X01 ∷ P01 ∷ local_rules) broken f)

  pub offered : (r : Result Stamp OfferRefusal) (new : List Block) → Checked s b r new → Offered s bytes r new
  offered (Ok stamp) new h = (b, record { text = text; keeps = first_offered None h.0 }, h.1.0, h.1.1, h.1.2, h.1.3)
  offered (Err (Local rule)) new h = (b, text, first_offered (Some rule) h.0, h.1)
  offered (Err (Known stamp)) new h = (b, record { text = text; keeps = first_offered None h.0 }, h.1.0, h.1.1, h.1.2)
  offered (Err (Full held)) new h = (b, record { text = text; keeps = first_offered None h.0 }, h.1.0, h.1.1, h.1.2, h.1.3)
  offered (Err NoMemory) new h = h
  offered (Err (Unread line)) new h = absurd h

-- bytes that are no block
pub unread : (s : Branches) (bytes : List ℕ) (line : ℕ) → ((d : Block) → IsTextOf bytes d → ⊥) → length bytes ≤ longest_block → IsRefusedLine bytes line → Offered s bytes (Err (Unread line)) s.store
unread s bytes line none short refused =
    (record { before = X01 ∷ []; after = local_rules; stands = local_are; passed = (short, tt); fails = λ h. none h.0 h.1 }, refused, refl)

-- a block that breaks no rule is added, or why it is not is named
pub checked_added : (s : Branches) (b : Block) (r : Result Stamp OfferRefusal) (new : List Block) → FirstLocal s b None → Added s b r new → Checked s b r new
checked_added s b (Ok stamp) new first a = (first, a)
checked_added s b (Err (Local rule)) new first a = absurd a
checked_added s b (Err (Known stamp)) new first a = (first, a)
checked_added s b (Err (Full held)) new first a = (first, a)
checked_added s b (Err NoMemory) new first a = a
checked_added s b (Err (Unread line)) new first a = absurd a
