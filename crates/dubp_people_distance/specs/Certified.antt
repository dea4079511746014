-- The live certifications of a key, and what a block changes of those of all keys. Protocol: certifications, distance.
use Rattle.std.specs.Prelude.{◌≡◌, ◌∷◌, Option, Some, None}
use Rattle.std.specs.BTreeSet.{contains}
use Rattle.dubp_atoms.specs.Same.{Text}
use Rattle.dubp_block.specs.declared.block.Block.{Block}
use Rattle.dubp_chain.specs.Chains.{Chain}
use Rattle.dubp_chain.specs.Live.{live, received, stock}
use Rattle.dubp_iindex.specs.Rows.{texts}
use Rattle.dubp_people_distance.specs.declared.certified.Certified.{Certified}

-- these are the live certifications of the key
pub record IsCertified (d : Chain) (k : Text) (x : Certified) : Type 0 where
  pub issuers : (a : Text) → contains texts x.issuers a ≡ live d a k
  pub stock : x.stock ≡ stock d k
  pub received : x.received ≡ received d k

-- where something is known of a key, it is its live certifications
abbrev pub AreCertified : Chain → (Text → Option Certified) → Type 0
AreCertified d known = (k : Text) (x : Certified) → known k ≡ Some x → IsCertified d k x

-- the block changes no live certification of the key
pub record IsKept (c : Chain) (b : Block) (k : Text) : Type 0 where
  pub from : (a : Text) → live (b ∷ c) a k ≡ live c a k
  pub to : (a : Text) → live (b ∷ c) k a ≡ live c k a

-- the live certifications of a key of which nothing is known are as before the block
abbrev pub OthersAreKept : Chain → Block → (Text → Option Certified) → Type 0
OthersAreKept c b known = (k : Text) → known k ≡ None → IsKept c b k
