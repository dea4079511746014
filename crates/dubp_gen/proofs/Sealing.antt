-- A draft that is sealed, or cannot be, behind a chain.
use Rattle.std.proofs.Common.{◌≡◌, ◌≤◌, ℕ, [], ◌∷◌, length, Some, None, false, refl, subst, sym, true, ◌∙◌, arith}
use Rattle.std.specs.Prelude.{IsTrue}
use Rattle.dubp_atoms.specs.Same.{Text}
use Rattle.dubp_block.specs.Text.{inner_text}
use Rattle.dubp_block.specs.declared.block.Block.{Block}
use Rattle.dubp_chain.specs.Chains.{Chain}
use Rattle.dubp_chain.specs.Heads.{difficulty}
use Rattle.dubp_chain.specs.Members.{member}
use Rattle.dubp_drafts.specs.Sealing.{IsSealed}
use Rattle.dubp_drafts.specs.declared.sealed.Sealed.{Sealed}
use Rattle.dubp_ledger.specs.OfForging.{IsFilled}
use Rattle.dubp_ledger.specs.States.{IsDifficulty}
use Rattle.dubp_rules.specs.declared.rule.Rule.TheVariants.{G101}
use Rattle.dubp_gen.specs.declared.chain.GenRefusal.{GenRefusal}
use Rattle.dubp_gen.specs.declared.chain.GenRefusal.TheVariants.{Invalid, NoNonce}
use Rattle.dubp_gen.specs.Generated.{HasNoNonce, HasNoSeal, IsToSeal, IssuerMay}
use Rattle.dubp_gen.specs.Making.{IsSealedBlock}
use Rattle.dubp_validity.specs.LocalRules.{InnerHashIsRight}

pub no_first : (c : Chain) (draft : Block) (n : ℕ) (refusal : GenRefusal) → c ≡ [] → n ≡ length c → refusal ≡ NoNonce n → HasNoNonce draft 0 → HasNoSeal c draft refusal
no_first [] draft n refusal empty is same none = subst (HasNoSeal [] draft) (sym same) (is, (draft, 0, ((refl, refl), (tt, none))))
no_first (a ∷ c) draft n refusal empty is same none = absurd cc

-- behind blocks
pub to_seal : (c : Chain) (draft b : Block) (d : ℕ) → 1 ≤ length c → IsFilled c draft b → difficulty c b.issuer ≡ Some d → IsToSeal c draft b d
to_seal [] draft b d some filled is = absurd (omega (arith, some))
to_seal (a ∷ c) draft b d some filled is = (filled, is)

pub issuer_may : (c : Chain) (k : Text) → 1 ≤ length c → IsTrue (member c k) → IssuerMay c k
issuer_may [] k some may = absurd (omega (arith, some))
issuer_may (a ∷ c) k some may = may

pub issuer_may_not : (c : Chain) (k : Text) → 1 ≤ length c → (IsTrue (member c k) → ⊥) → IssuerMay c k → ⊥
issuer_may_not [] k some not may = absurd (omega (arith, some))
issuer_may_not (a ∷ c) k some not may = not may

pub later_sealed : (c : Chain) (draft b : Block) (d : ℕ) (s : Sealed) → 1 ≤ length c → IsFilled c draft b → IsDifficulty c b.issuer (Some d) → IsSealed b d s → IsSealedBlock c draft s
later_sealed c draft b d s some filled is sealed = record {
  filled = b;
  difficulty = d;
  to_seal = to_seal c draft b d some filled is.1;
  may = issuer_may c b.issuer some is.0;
  sealed = sealed;
}

pub no_later : (c : Chain) (draft b : Block) (d n : ℕ) (refusal : GenRefusal) → 1 ≤ length c → IsFilled c draft b → IsDifficulty c b.issuer (Some d) → n ≡ length c → refusal ≡ NoNonce n → HasNoNonce b d → HasNoSeal c draft refusal
no_later c draft b d n refusal some filled is long same none =
    subst (HasNoSeal c draft) (sym same) (long, (b, d, (to_seal c draft b d some filled is.1, (issuer_may c b.issuer some is.0, none))))

-- where the issuer is no member
pub no_member : (c : Chain) (draft b : Block) (n : ℕ) → 1 ≤ length c → IsFilled c draft b → IsDifficulty c b.issuer None → n ≡ length c → HasNoSeal c draft (Invalid n G101)
no_member c draft b n some filled is long =
    let not : member c draft.issuer ≡ false = subst (λ k. member c k ≡ false) filled.keeps.issuer is in
    (long, (refl, issuer_may_not c draft.issuer some (λ may. let no : true ≡ false = sym may ∙ not in absurd cc)))

-- neither the nonce nor the signature is of the inner text
pub has_inner_hash : (c : Chain) (draft : Block) (s : Sealed) → IsSealedBlock c draft s → InnerHashIsRight s.block
unfolding inner_text
has_inner_hash c draft s q = subst InnerHashIsRight (sym q.sealed.block_is) refl
