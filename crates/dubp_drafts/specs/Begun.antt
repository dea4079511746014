-- What the code has hashed of a block before it tries nonces. Protocol: the generator.
use Rattle.std.specs.Prelude.{ℕ, List, ◌++◌, codes}
use Rattle.dubp_atoms.specs.declared.hashing.Hashing.{Hashing}
use Rattle.dubp_block.specs.declared.block.Block.{Block}
use Rattle.dubp_drafts.specs.declared.begun.Begun.{Begun}

-- the signed text up to the nonce, by its inner hash
abbrev pub before_nonce : List ℕ → List ℕ
before_nonce inner_hash = codes "InnerHash: " ++ (inner_hash ++ codes "\nNonce: ")

-- one hash has read the issuer's key and the signed text up to the nonce, the other the signed text up to there
pub record HasBegun (has : Hashing → List ℕ → Type 0) (begun : Begun) (b : Block) : Type 0 where
  pub signing : has begun.signing (b.issuer ++ before_nonce b.inner_hash)
  pub hashing : has begun.hashing (before_nonce b.inner_hash)
