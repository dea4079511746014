-- A draft that has its inner hash is sealed as it was before.
use Rattle.std.proofs.Common.{◌≡◌, ℕ, List, Result, Ok, Err, refl, ap, sym}
use Rattle.dubp_atoms.specs.Hashing.{hash_of}
use Rattle.dubp_block.specs.Text.{inner_text}
use Rattle.dubp_block.specs.declared.block.Block.{Block}
use Rattle.dubp_drafts.specs.Sealing.{IsSealing, with_inner_hash}
use Rattle.dubp_drafts.specs.declared.sealed.Sealed.{Sealed}
use Rattle.dubp_drafts.specs.declared.sealed.SealRefusal.{SealRefusal}
use Rattle.dubp_drafts.specs.declared.sealed.SealRefusal.TheVariants.{NoNonce, NoMemory}

abbrev pub with_hash : Block → List ℕ → Block
with_hash draft hash = record draft { inner_hash = hash }

-- the inner text does not have the inner hash
pub inner_text-with_hash : (draft : Block) (hash : List ℕ) → inner_text (with_hash draft hash) ≡ inner_text draft
unfolding inner_text
inner_text-with_hash draft hash = refl

-- a right inner hash stays
pub has_inner_hash : (draft : Block) → draft.inner_hash ≡ hash_of (inner_text draft) → with_inner_hash draft ≡ draft
has_inner_hash draft right = ap (with_hash draft) (sym right)

-- whatever inner hash it has before
pub sealed_again : (draft : Block) (hash : List ℕ) (d : ℕ) (r : Result Sealed SealRefusal) → IsSealing (with_hash draft hash) d r → IsSealing draft d r
unfolding inner_text
sealed_again draft hash d (Ok s) sealed = record {
  nonce = sealed.nonce;
  within = sealed.within;
  block_is = sealed.block_is;
  meets = sealed.meets;
  least = sealed.least;
  key_is = sealed.key_is;
  message_is = sealed.message_is;
  sig_is = sealed.sig_is;
}
sealed_again draft hash d (Err NoNonce) none = none
sealed_again draft hash d (Err NoMemory) none = none
