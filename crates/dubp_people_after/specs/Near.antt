-- The keys that a key has certifications with. Protocol: certifications.
use Rattle.std.specs.Prelude.{Bool, IsTrue, ◌&&◌, ◌∷◌}
use Rattle.dubp_atoms.specs.Same.{Text, same_text}
use Rattle.dubp_block.specs.declared.block.Block.{Block}
use Rattle.dubp_chain.specs.Chains.{Chain}
use Rattle.dubp_chain.specs.Live.{live}
use Rattle.dubp_cindex.specs.declared.row.CertRow.{CertRow}
use Rattle.dubp_registry.specs.OfSteps.{is_end}

-- the key is one of the two ends
abbrev pub is_end_of : Text → Text × Text × CertRow → Bool
is_end_of k row = is_end row.0 row.1 k

-- all from whom, and all to whom, the key has a live certification on the chain with the block are among these
unfoldable pub HasIssuers : Chain → Block → Text → (Text → Bool) → Type 0
HasIssuers c b key test = (a : Text) → IsTrue (live (b ∷ c) a key) → IsTrue (test a)

unfoldable pub HasReceivers : Chain → Block → Text → (Text → Bool) → Type 0
HasReceivers c b key test = (a : Text) → IsTrue (live (b ∷ c) key a) → IsTrue (test a)

-- a has a live certification to the key, or from it, on the chain with the block
unfoldable pub is_issuer : Chain → Block → Text → Text → Bool
is_issuer c b key a = live (b ∷ c) a key

unfoldable pub is_receiver : Chain → Block → Text → Text → Bool
is_receiver c b key a = live (b ∷ c) key a

-- this one of the keys is a, which has a live certification to the key
unfoldable pub is_near_issuer : Chain → Block → Text → Text → Text → Bool
is_near_issuer c b key a near = same_text a near && is_issuer c b key near
