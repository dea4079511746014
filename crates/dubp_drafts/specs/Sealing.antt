-- What sealing a draft gives: its inner hash, the least nonce with which its hash meets a difficulty, and a stand-in for the
-- signature. Protocol: the generator.
use Rattle.std.specs.Prelude.{◌≡◌, ℕ, ◌<◌, ◌≤◌, List, ◌++◌, take, codes, Result, Ok, Err}
use Rattle.dubp_atoms.specs.Hashing.{hash_of}
use Rattle.dubp_block.specs.Text.{inner_text, signed_text, block_hash_of}
use Rattle.dubp_block.specs.declared.block.Block.{Block}
use Rattle.dubp_pow.specs.Meeting.{Meets}
use Rattle.dubp_drafts.specs.declared.sealed.Sealed.{Sealed}
use Rattle.dubp_drafts.specs.declared.sealed.SealRefusal.{SealRefusal}
use Rattle.dubp_drafts.specs.declared.sealed.SealRefusal.TheVariants.{NoNonce, NoMemory}

-- a hash as the text of a signature: its digits, the first 22 of them again, and `==`
abbrev pub hash_as_signature : List ℕ → List ℕ
hash_as_signature hash = hash ++ (take 22 hash ++ codes "==")

-- the stand-in for the signature by a key of a message
abbrev pub signature_of : List ℕ → List ℕ → List ℕ
signature_of key message = hash_as_signature (hash_of (key ++ message))

-- a draft with its inner hash, which is over other fields than the three that sealing sets
abbrev pub with_inner_hash : Block → Block
with_inner_hash draft = record draft { inner_hash = hash_of (inner_text draft) }

abbrev pub with_nonce : Block → ℕ → Block
with_nonce b nonce = record b { nonce = nonce }

-- a block with the signature by its issuer
abbrev pub signed : Block → Block
signed b = record b { sig = signature_of b.issuer (signed_text b) }

-- a draft with its inner hash, this nonce and its signature
abbrev pub sealed_with : Block → ℕ → Block
sealed_with draft nonce = signed (with_nonce (with_inner_hash draft) nonce)

-- the draft with the least nonce with which its hash meets the difficulty, and the verdict on its signature
pub record IsSealed (draft : Block) (d : ℕ) (s : Sealed) : Type 0 where
  pub nonce : ℕ
  pub within : nonce ≤ 999999
  pub block_is : s.block ≡ sealed_with draft nonce
  pub meets : Meets (block_hash_of s.block) d
  pub least : (n : ℕ) → n < nonce → Meets (block_hash_of (sealed_with draft n)) d → ⊥
  pub key_is : s.key ≡ draft.issuer
  pub message_is : s.message ≡ hash_of (signed_text s.block)
  pub sig_is : s.sig ≡ s.block.sig

-- a draft is not sealed exactly where there is no such nonce; that takes no memory
abbrev pub IsSealing : Block → ℕ → Result Sealed SealRefusal → Type 0
IsSealing draft d (Ok s) = IsSealed draft d s
IsSealing draft d (Err NoNonce) = (n : ℕ) → n ≤ 999999 → Meets (block_hash_of (sealed_with draft n)) d → ⊥
IsSealing draft d (Err NoMemory) = ⊥

-- The hash that the code tries, for a block that has its inner hash.

-- the hash of a block with this nonce and the signature by its issuer
abbrev pub hash_with : Block → ℕ → List ℕ
hash_with b nonce = block_hash_of (signed (with_nonce b nonce))

abbrev pub MeetsWith : Block → ℕ → ℕ → Type 0
MeetsWith b nonce d = Meets (hash_with b nonce) d
