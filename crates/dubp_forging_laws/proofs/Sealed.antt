-- A draft that is signed keeps what it kept before.
use Rattle.std.proofs.Common.{◌≡◌, ℕ, zero, suc, true, false, not, cond, List, [], ◌∷◌, filter, slice_get, Some, None, refl, sym, subst, true≢false}
use Rattle.std.specs.Prelude.{⊤}
use Rattle.std.specs.List.{AllByRecursion}
use Rattle.dubp_atoms.specs.Letters.{is_sig}
use Rattle.dubp_atoms.specs.Same.{Text}
use Rattle.dubp_atoms.specs.Spelling.{IsNumber}
use Rattle.dubp_block.specs.Text.{IsBlock, block_text, inner_text}
use Rattle.dubp_block.specs.declared.block.Block.{Block}
use Rattle.dubp_rules.specs.declared.rule.Rule.{Rule}
use Rattle.dubp_rules.specs.declared.rule.Rule.TheVariants.{X01, P01, X07, L05, G62, G66, G71, G72, G76, G79}
use Rattle.dubp_rules.specs.Table.{table_rules}
use Rattle.dubp_verdict.specs.Verdicts.{Verdicts}
use Rattle.dubp_chain.specs.Chains.{Chain}
use Rattle.dubp_validity.specs.Rules.{FirstBrokenRaw, Holds, HoldsRaw, IsTextOf}
use Rattle.dubp_forging.specs.Drafts.{HoldsWritten, is_of_sealing}
use Rattle.dubp_forging_laws.specs.Laws.{IsSealedWell, SealedIsAccepted, sealed}
use Rattle.dubp_forging_laws.proofs.Texts.{one_block}
use Rattle.dubp_forging_laws.proofs.Unsealed.{certified, comers, in_range, received_enough, renewed, stocks}

-- what holds of each rule holds of the one at a place
among : (P : Rule → Type 0) (rules : List Rule) (n : ℕ) (rule : Rule) → slice_get rules n ≡ Some rule → AllByRecursion P rules → P rule
among P [] n rule e all = absurd cc
among P (r ∷ rules) zero rule e all = let same : r ≡ rule = cc in subst P same all.0
among P (r ∷ rules) (suc n) rule e all = among P rules n rule e all.1

-- of a block whose nonce and signature are others, each rule but three says the same
module _ (v : Verdicts) (b : Block) (nonce : ℕ) (sig : Text) where
  abbrev block : Block
  block = sealed b nonce sig

  abbrev Says : Chain → Rule → Type 0
  Says c X01 = ⊤
  Says c L05 = ⊤
  Says c G62 = ⊤
  Says c rule = Holds v c block rule

  said_first : (rule : Rule) → HoldsWritten v [] b rule → Says [] rule
  unfolding inner_text
  said_first X01 h = tt
  said_first L05 h = tt
  said_first G62 h = tt
  said_first X07 h = record { number = h.number; time = h.time; median_time = h.median_time }
  said_first G66 h = stocks b nonce sig [] h
  said_first G71 h = renewed b nonce sig [] h
  said_first G72 h = certified b nonce sig v [] h
  said_first G79 h = received_enough b nonce sig [] h
  said_first G76 h = comers b nonce sig [] h
  said_first rule h = h

  said_behind : (a : Block) (c : Chain) (rule : Rule) → HoldsWritten v (a ∷ c) b rule → Says (a ∷ c) rule
  unfolding inner_text
  said_behind a c X01 h = tt
  said_behind a c L05 h = tt
  said_behind a c G62 h = tt
  said_behind a c X07 h = record { number = h.number; time = h.time; median_time = h.median_time }
  said_behind a c G66 h = stocks b nonce sig (a ∷ c) h
  said_behind a c G71 h = renewed b nonce sig (a ∷ c) h
  said_behind a c G72 h = certified b nonce sig v (a ∷ c) h
  said_behind a c G79 h = received_enough b nonce sig (a ∷ c) h
  said_behind a c G76 h = comers b nonce sig (a ∷ c) h
  said_behind a c rule h = h

  said : (c : Chain) (rule : Rule) → HoldsWritten v c b rule → Says c rule
  said [] rule h = said_first rule h
  said (a ∷ c) rule h = said_behind a c rule h

  module _ (c : Chain) (is : IsBlock b) (number : IsNumber nonce) (signature : is_sig sig ≡ true) where
    text : IsTextOf (block_text block) block
    text = record { is = in_range b nonce sig is number signature; text = refl }

    raw : (well : IsSealedWell v c block) (rule : Rule) → Says c rule → HoldsRaw v c (block_text block) rule
    raw well X01 h = well.short
    raw well P01 h = (block, text)
    raw well L05 h = λ x t. subst (λ (y : Block). Holds v c y L05) (one_block (block_text block) block x text t) well.signed
    raw well G62 h = λ x t. subst (λ (y : Block). Holds v c y G62) (one_block (block_text block) block x text t) well.meets
    raw well rule h = λ x t. subst (λ (y : Block). Holds v c y rule) (one_block (block_text block) block x text t) h

    -- the two of sealing say nothing before
    unsaid : (rule : Rule) → is_of_sealing rule ≡ true → Says c rule
    unsaid L05 e = tt
    unsaid G62 e = tt
    unsaid rule e = absurd (true≢false (sym e))

    all_raw : IsSealedWell v c block → (rules : List Rule) → AllByRecursion (HoldsWritten v c b) (filter (λ rule. not (is_of_sealing rule)) rules) → AllByRecursion (HoldsRaw v c (block_text block)) rules
    all_raw well [] all = tt
    all_raw well (rule ∷ rules) all =
        elim (is_of_sealing rule) as (λ t. is_of_sealing rule ≡ t → AllByRecursion (HoldsWritten v c b) (cond (not t) (rule ∷ filter (λ r. not (is_of_sealing r)) rules) (filter (λ r. not (is_of_sealing r)) rules)) → HoldsRaw v c (block_text block) rule × AllByRecursion (HoldsRaw v c (block_text block)) rules) [
          | true ↦ λ e a. (raw well rule (unsaid rule e), all_raw well rules a)
          | false ↦ λ e a. (raw well rule (said c rule a.0), all_raw well rules a.1)
        ] refl all

    well : FirstBrokenRaw v c (block_text block) None → IsSealedWell v c block
    well all = record {
      short = all.0;
      signed = among (HoldsRaw v c (block_text block)) table_rules 8 L05 refl all block text;
      meets = among (HoldsRaw v c (block_text block)) table_rules 45 G62 refl all block text;
    }

pub accepted_sealed : SealedIsAccepted
accepted_sealed v c b nonce sig is bad number signature = (well v b nonce sig c is number signature, λ seal. all_raw v b nonce sig c is number signature seal table_rules bad)
