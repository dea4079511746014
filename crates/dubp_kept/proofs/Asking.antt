-- From what the rules say of a block to what they say of it as they are asked, and back.
use Rattle.std.proofs.Common.{◌≡◌, ◌≤◌, ◌↔◌, Bool, true, false, not, ◌||◌, true≢false, List, [], ◌∷◌, length, Option, Some, None, refl, sym}
use Rattle.std.specs.List.{AllByRecursion, list_any}
use Rattle.dubp_block.specs.declared.block.Block.{Block}
use Rattle.dubp_block.specs.Text.{block_text}
use Rattle.dubp_rules.specs.declared.rule.Rule.{Rule}
use Rattle.dubp_rules.specs.declared.rule.Rule.TheVariants.{X01, L05, G62}
use Rattle.dubp_rules.specs.First.{IsFirst}
use Rattle.dubp_rules.specs.Table.{table_rules}
use Rattle.dubp_rules.proofs.FirstLaws.{FirstOf_from_IsFirst, FirstOf_same, IsFirst_from_FirstOf}
use Rattle.dubp_verdict.specs.Verdicts.{Verdicts}
use Rattle.dubp_chain.specs.Chains.{Chain}
use Rattle.dubp_validity.specs.Rules.{Holds, FirstBroken, longest_block}
use Rattle.dubp_validity.specs.Drafts.{FirstBad, HoldsWritten, draft_rules, is_of_sealing}
use Rattle.dubp_validity.proofs.Passed.{FirstOf_filter, FirstOf_unfiltered}
use Rattle.dubp_head.specs.NextHead.{header_rules, stated_rules}
use Rattle.dubp_head.proofs.SameRules.{is_first_same}
use Rattle.dubp_head.proofs.Stated.{stated_breaks, difficulty_holds}
use Rattle.dubp_kept.specs.OfLocal.{Asked, asked_rules, is_signature_rule, local_rules, unsigned_rules}
use Rattle.dubp_kept.specs.OfLocal.{Signed, Unsigned}
use Rattle.dubp_kept.specs.Asking.{Asks, asked_header}
use Rattle.dubp_kept.specs.Judged.{Judged, JudgedAsked}
use Rattle.dubp_kept.specs.declared.judgement.Judgement.{Judgement}
use Rattle.dubp_kept.specs.declared.judgement.Judgement.TheVariants.{Breaks, Keeps}

-- whether one of the two stands in the list
abbrev has_sealing : List Rule → Bool
has_sealing rs = list_any is_of_sealing rs

module _ (v : Verdicts) (c : Chain) (b : Block) where
  -- the others are asked of each block
  asks_other : (asked : Asked) (r : Rule) → is_of_sealing r ≡ false → Holds v c b r ↔ Asks asked v c b r
  asks_other asked L05 e = absurd (true≢false e)
  asks_other asked G62 e = absurd (true≢false e)
  asks_other asked rule e = (λ h. h, λ h. h)

  asks_others : (asked : Asked) (rs : List Rule) → has_sealing rs ≡ false → AllByRecursion (λ r. Holds v c b r ↔ Asks asked v c b r) rs
  asks_others asked [] e = tt
  asks_others asked (r ∷ rs) e =
      elim (is_of_sealing r) as (λ k. is_of_sealing r ≡ k → (k || has_sealing rs) ≡ false → AllByRecursion (λ r. Holds v c b r ↔ Asks asked v c b r) (r ∷ rs)) [
        | true ↦ λ is none. absurd (true≢false none)
        | false ↦ λ is none. (asks_other asked r is, asks_others asked rs none)
      ] refl e

  pub others_asked : (asked : Asked) (rs : List Rule) (answer : Option Rule) → has_sealing rs ≡ false → IsFirst (Holds v c b) rs answer → IsFirst (Asks asked v c b) rs answer
  others_asked asked rs answer none f = (is_first_same (Holds v c b) (Asks asked v c b) rs answer (asks_others asked rs none)).0 f

  -- a signed block is asked every rule
  asks_signed : (r : Rule) → Holds v c b r ↔ Asks Signed v c b r
  asks_signed L05 = (λ h. h, λ h. h)
  asks_signed G62 = (λ h. h, λ h. h)
  asks_signed rule = (λ h. h, λ h. h)

  pub signed_asked : (rs : List Rule) (answer : Option Rule) → IsFirst (Holds v c b) rs answer ↔ IsFirst (Asks Signed v c b) rs answer
  signed_asked rs answer = (
    λ f. IsFirst_from_FirstOf (Asks Signed v c b) rs answer (FirstOf_same (Holds v c b) (Asks Signed v c b) (λ r. (asks_signed r).0) (λ r. (asks_signed r).1) rs answer (FirstOf_from_IsFirst (Holds v c b) rs answer f)),
    λ f. IsFirst_from_FirstOf (Holds v c b) rs answer (FirstOf_same (Asks Signed v c b) (Holds v c b) (λ r. (asks_signed r).1) (λ r. (asks_signed r).0) rs answer (FirstOf_from_IsFirst (Asks Signed v c b) rs answer f)),
  )

  -- the local rules
  unsigned_same : (r : Rule) → not (is_signature_rule r) ≡ true → Asks Unsigned v c b r ↔ Asks Unsigned v c b r
  unsigned_same r e = (λ h. h, λ h. h)

  unsigned_passes : (r : Rule) → not (is_signature_rule r) ≡ false → Asks Unsigned v c b r
  unsigned_passes L05 e = tt
  unsigned_passes rule e = absurd (true≢false e)

  pub local_asked : (asked : Asked) (answer : Option Rule) → IsFirst (Holds v c b) (asked_rules asked) answer → IsFirst (Asks asked v c b) local_rules answer
  local_asked Signed answer f = (signed_asked local_rules answer).0 f
  local_asked Unsigned answer f =
      let first = FirstOf_from_IsFirst (Asks Unsigned v c b) unsigned_rules answer (others_asked Unsigned unsigned_rules answer refl f) in
      IsFirst_from_FirstOf (Asks Unsigned v c b) local_rules answer (FirstOf_unfiltered (λ r. not (is_signature_rule r)) unsigned_same unsigned_passes local_rules answer first)

  -- the rules on the header
  pub header_asked : (asked : Asked) (answer : Option Rule) → IsFirst (Holds v c b) (asked_header asked) answer → IsFirst (Asks asked v c b) header_rules answer
  header_asked Signed answer f = (signed_asked header_rules answer).0 f
  header_asked Unsigned (Some r) f = stated_breaks (Asks Unsigned v c b) r (others_asked Unsigned stated_rules (Some r) refl f)
  header_asked Unsigned None f = difficulty_holds (Asks Unsigned v c b) (others_asked Unsigned stated_rules None refl f) tt

  -- the first rule of the table as they are asked
  signed_first : (answer : Option Rule) → IsFirst (Asks Signed v c b) table_rules answer → FirstBroken v c b answer
  signed_first answer f = (signed_asked table_rules answer).1 f

  pub signed_judged : (judgement : Judgement) → JudgedAsked Signed v c b judgement → Judged v c b judgement
  signed_judged (Breaks rule) f = signed_first (Some rule) f
  signed_judged (Keeps head p hashes) f = (signed_first None f.0, f.1, f.2)

  written_same : length (block_text b) ≤ longest_block → (r : Rule) → not (is_of_sealing r) ≡ true → Asks Unsigned v c b r ↔ HoldsWritten v c b r
  written_same short X01 e = (λ _. short, λ _. tt)
  written_same short L05 e = absurd (true≢false (sym e))
  written_same short G62 e = absurd (true≢false (sym e))
  written_same short rule e = (λ h. h, λ h. h)

  sealing_passes : (r : Rule) → not (is_of_sealing r) ≡ false → Asks Unsigned v c b r
  sealing_passes L05 e = tt
  sealing_passes G62 e = tt
  sealing_passes rule e = absurd (true≢false e)

  pub unsigned_first : length (block_text b) ≤ longest_block → (answer : Option Rule) → IsFirst (Asks Unsigned v c b) table_rules answer → FirstBad v c b answer
  unsigned_first short answer f =
      IsFirst_from_FirstOf (HoldsWritten v c b) draft_rules answer
      (FirstOf_filter (λ r. not (is_of_sealing r)) (written_same short) sealing_passes table_rules answer (FirstOf_from_IsFirst (Asks Unsigned v c b) table_rules answer f))
