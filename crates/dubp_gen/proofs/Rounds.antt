-- One block more: what was drafted and sealed is noted, and joins or ends the making.
use Rattle.std.proofs.Common.{◌≡◌, inl, inr, ℕ, zero, suc, List, [], ◌∷◌, ◌++◌, ◌+◌, length, min, None, Result, Ok, Err, IfErr, OnOk, sym, ap, subst, arith, ◌∙◌}
use Rattle.std.proofs.lemmas.List.{append_assoc}
use Rattle.dubp_atoms.specs.Same.{Text}
use Rattle.dubp_atoms.specs.Hashing.{hash_of}
use Rattle.dubp_pow.specs.Meeting.{Meets}
use Rattle.dubp_block.specs.Text.{block_hash_of, signed_text}
use Rattle.dubp_block.specs.declared.block.Block.{Block}
use Rattle.dubp_verdict.specs.Verdicts.{Verdicts}
use Rattle.dubp_ledger.specs.OfKept.{KeptChain, kept_of, with_block}
use Rattle.dubp_chain.specs.Chains.{Chain as Blocks}
use Rattle.dubp_validity.specs.Rules.{FirstBroken}
use Rattle.dubp_drafts.specs.Drafting.{Given}
use Rattle.dubp_drafts.specs.Numbers.{number_after}
use Rattle.dubp_drafts.specs.declared.sealed.Sealed.{Sealed}
use Rattle.dubp_gen.specs.declared.chain.GenRefusal.{GenRefusal}
use Rattle.dubp_gen.specs.Generated.{EndsWith, HasNoSeal, IsMade, IsMadeNext, IsRefused, IsSealedNext, Made, given_with, next_draft, next_given, number_at, own, with_given}
use Rattle.dubp_gen.specs.Making.{HasGrown, IsOfMade, IsSealedBlock, Joins, made_in}
use Rattle.dubp_gen.proofs.Giving.{with_given-append}

abbrev given_at : Text → Text → Text → Given
given_at key hash sig = (key, hash, sig)

-- the verdict on the signature of a sealed block
abbrev pub sealed_own : Sealed → Given
sealed_own s = (s.key, s.message, s.sig)

-- what was drafted behind these blocks was sealed, and the verdicts w were given behind v and noted behind those before
pub record IsRound (blocks : Blocks) (v w : Verdicts) (x : ℕ) (noted after : List Given) (s : Sealed) : Type 0 where
  pub draft : Block
  pub given : List Given
  pub block : (start : ℕ) → x ≡ number_at start (length blocks) → draft ≡ next_draft start blocks
  pub lines : (start : ℕ) → x ≡ number_at start (length blocks) → given ≡ next_given start blocks
  pub sealed : IsSealedBlock blocks draft s
  pub new : w ≡ with_given (with_given v given) (sealed_own s ∷ [])
  pub notes : after ≡ (noted ++ given) ++ sealed_own s ∷ []

pub round_of : (blocks : Blocks) (v u w : Verdicts) (x : ℕ) (noted between after : List Given) (s : Sealed) (draft : Block) (given slice : List Given)
    → ((start : ℕ) → x ≡ number_at start (length blocks) → draft ≡ next_draft start blocks) → ((start : ℕ) → x ≡ number_at start (length blocks) → given ≡ next_given start blocks)
    → IsSealedBlock blocks draft s → slice ≡ given → u ≡ with_given v slice → between ≡ noted ++ slice → w ≡ with_given u (sealed_own s ∷ []) → after ≡ between ++ sealed_own s ∷ []
    → IsRound blocks v w x noted after s
round_of blocks v u w x noted between after s draft given slice block lines sealed is first second third fourth = record {
  draft = draft;
  given = given;
  block = block;
  lines = lines;
  sealed = sealed;
  new = third ∙ ap (λ t. with_given t (sealed_own s ∷ [])) (first ∙ ap (with_given v) is);
  notes = fourth ∙ ap (λ l. l ++ sealed_own s ∷ []) (second ∙ ap (λ l. noted ++ l) is);
}

own_is : (blocks : Blocks) (draft : Block) (s : Sealed) → IsSealedBlock blocks draft s → sealed_own s ≡ own s.block
own_is blocks draft s q =
    ap (λ k. given_at k s.message s.sig) (q.sealed.key_is ∙ sym (ap (λ (b : Block). b.issuer) q.sealed.block_is))
    ∙ ap (λ h. given_at s.block.issuer h s.sig) q.sealed.message_is
    ∙ ap (λ g. given_at s.block.issuer (hash_of (signed_text s.block)) g) q.sealed.sig_is

-- sealed behind what was made
sealed_next : (start : ℕ) (m : Made) (s : Sealed) → IsSealedBlock m.chain (next_draft start m.chain) s → IsSealedNext start m s.block
sealed_next start m s q = record {
  filled = q.filled;
  difficulty = q.difficulty;
  nonce = q.sealed.nonce;
  to_seal = q.to_seal;
  may = q.may;
  least = record {
    within = q.sealed.within;
    meets = subst (λ b. Meets (block_hash_of b) q.difficulty) q.sealed.block_is q.sealed.meets;
    least = q.sealed.least;
  };
  is = q.sealed.block_is;
}

-- behind what was made: these blocks are in the ledger
module _ (start x : ℕ) (ledger : KeptChain) (v w : Verdicts) (noted after : List Given) (s : Sealed) (of : IsOfMade start ledger v x noted) (r : IsRound ledger.chain v w x noted after s) where
  pub next_of : IsSealedNext start (made_in ledger noted) s.block
  next_of = sealed_next start (made_in ledger noted) s (subst (λ d. IsSealedBlock ledger.chain d s) (r.block start of.number) r.sealed)

  pub noted_of : after ≡ given_with start (made_in ledger noted) s.block
  noted_of =
      r.notes ∙ append_assoc noted r.given (sealed_own s ∷ [])
      ∙ ap (λ l. noted ++ (l ++ sealed_own s ∷ [])) (r.lines start of.number)
      ∙ ap (λ o. noted ++ (next_given start ledger.chain ++ o ∷ [])) (own_is ledger.chain r.draft s r.sealed)

  pub given_of : w ≡ with_given [] after
  given_of =
      r.new
      ∙ ap (λ u. with_given (with_given u r.given) (sealed_own s ∷ [])) of.verdicts
      ∙ ap (λ u. with_given u (sealed_own s ∷ [])) (sym (with_given-append [] noted r.given))
      ∙ sym (with_given-append [] (noted ++ r.given) (sealed_own s ∷ []))
      ∙ ap (with_given []) (sym r.notes)

  pub given_with_is : w ≡ with_given [] (given_with start (made_in ledger noted) s.block)
  given_with_is = given_of ∙ ap (with_given []) noted_of

-- it joins
pub made_next : {R : Type 0} (r : Result R GenRefusal) (x : ℕ) (ledger new : KeptChain) (v w : Verdicts) (noted after : List Given) (s : Sealed) → IsRound ledger.chain v w x noted after s
    → OnOk r (Joins w ledger.chain s.block) → OnOk r (new ≡ with_block s.block ledger)
    → OnOk r ((start : ℕ) → IsOfMade start ledger v x noted → (b : Block) × IsMadeNext start (made_in ledger noted) b (made_in new after))
made_next (Err e) x ledger new v w noted after s round joins more = tt
made_next (Ok u) x ledger new v w noted after s round joins more = λ start of. (
  s.block,
  record {
    next = next_of start x ledger v w noted after s of round;
    short = joins.short;
    keeps = subst (λ u. FirstBroken u ledger.chain s.block None) (given_with_is start x ledger v w noted after s of round) joins.keeps;
    chain = ap (λ (k : KeptChain). k.chain) more;
    given = noted_of start x ledger v w noted after s of round;
  },
)

pub verdicts_next : {R : Type 0} (r : Result R GenRefusal) (x : ℕ) (ledger : KeptChain) (v w : Verdicts) (noted after : List Given) (s : Sealed) → IsRound ledger.chain v w x noted after s
    → OnOk r ((start : ℕ) → IsOfMade start ledger v x noted → w ≡ with_given [] after)
verdicts_next (Err e) x ledger v w noted after s round = tt
verdicts_next (Ok u) x ledger v w noted after s round = λ start of. given_of start x ledger v w noted after s of round

pub grown : {R : Type 0} (r : Result R GenRefusal) (old new : KeptChain) (b : Block) → OnOk r (new ≡ with_block b old) → OnOk r (HasGrown old new)
grown (Err e) old new b more = tt
grown (Ok u) old new b more = (b, more)

-- it is refused
pub ended_by : {R : Type 0} (r : Result R GenRefusal) (x : ℕ) (ledger : KeptChain) (v w : Verdicts) (noted after : List Given) (s : Sealed) → IsRound ledger.chain v w x noted after s
    → IfErr r (IsRefused w ledger.chain s.block)
    → IfErr r (λ refusal. (start : ℕ) → IsOfMade start ledger v x noted → EndsWith start (made_in ledger noted) refusal)
ended_by (Ok u) x ledger v w noted after s round refused = tt
ended_by (Err e) x ledger v w noted after s round refused = λ start of. inr (
  s.block,
  (
    next_of start x ledger v w noted after s of round,
    subst (λ u. IsRefused u ledger.chain s.block e) (given_with_is start x ledger v w noted after s of round) refused,
  ),
)

-- it cannot be sealed
pub not_sealed : (x : ℕ) (ledger : KeptChain) (v : Verdicts) (noted : List Given) (draft : Block) (refusal : GenRefusal) → ((start : ℕ) → x ≡ number_at start (length ledger.chain) → draft ≡ next_draft start ledger.chain)
    → HasNoSeal ledger.chain draft refusal → (start : ℕ) → IsOfMade start ledger v x noted → EndsWith start (made_in ledger noted) refusal
not_sealed x ledger v noted draft refusal is none = λ start of. inl (subst (λ d. HasNoSeal ledger.chain d refusal) (is start of.number) none)

-- ---- in the loop

pub made_length : (start n : ℕ) (m : Made) → IsMade start n m → length m.chain ≡ n
made_length start zero m made = ap (λ (m : Made). length m.chain) made
made_length start (suc n) m (before, b, (made, next)) = ap (length {A = Block}) next.chain ∙ ap suc (made_length start n before made)

-- with the next block, and the number behind it
pub of_made_next : (start x : ℕ) (old new : KeptChain) (v w : Verdicts) (noted after : List Given) → IsOfMade start old v x noted → HasGrown old new → w ≡ with_given [] after → IsOfMade start new w (number_after x) after
of_made_next start x old new v w noted after of (b, grown) verdicts = record {
  verdicts = verdicts;
  number = ap number_after of.number ∙ ap (λ (k : KeptChain). number_at start (length k.chain)) (sym grown);
}

-- how many of its blocks can be reversed, where none is held
pub kept_next : (n : ℕ) (old new : KeptChain) → old.kept ≡ min n 100 → old.out ≡ None → HasGrown old new → (new.kept ≡ min (n + 1) 100) × (new.out ≡ None)
kept_next n old new kept out (b, grown) =
    let is : new.kept ≡ min (old.kept + 1) 100 = ap (λ (k : KeptChain). k.kept) grown ∙ ap (λ o. kept_of o (old.kept + 1)) out in
    (omega (arith, is, kept), ap (λ (k : KeptChain). k.out) grown ∙ out)
