-- The web of the chain with a block: its members and its live certifications. Protocol: distance.
use Rattle.std.specs.Prelude.{◌≡◌, ℕ, Bool, ◌∷◌, List, Option, length}
use Rattle.dubp_atoms.specs.Same.{Text}
use Rattle.dubp_block.specs.declared.block.Block.{Block}
use Rattle.dubp_block.specs.declared.block.MemberLine.{MemberLine}
use Rattle.dubp_chain.specs.Words.{names}
use Rattle.dubp_chain.specs.Chains.{Chain}
use Rattle.dubp_chain.specs.Distance.{Passes}
use Rattle.dubp_chain.specs.Live.{live_pairs}
use Rattle.dubp_chain.specs.Members.{members}
use Rattle.dubp_people_distance.specs.declared.certified.Certified.{Certified}
use Rattle.dubp_people_distance.specs.Certified.{AreCertified, OthersAreKept}
use Rattle.dubp_people_distance.specs.Moved.{SaysWhoJoins, SaysWhoLeaves}

-- what is made once a block, of the chain c with the block b
pub record IsMade (c : Chain) (b : Block) (joins : Text → Bool) (leaving : List Text) (count : ℕ) (known : Text → Option Certified) : Type 0 where
  pub joined : SaysWhoJoins c b joins
  pub left : SaysWhoLeaves c b (names leaving)
  pub counted : count ≡ length (members (b ∷ c))
  pub certified : AreCertified (b ∷ c) known
  pub kept : OthersAreKept c b known

-- the members of the chain, and its live certifications
pub record IsWebOf (d : Chain) (keys : List Text) (pairs : List (Text × Text)) : Type 0 where
  pub keys_are : keys ≡ members d
  pub pairs_are : pairs ≡ live_pairs d

-- the key of the line is near enough to the sentries
unfoldable pub HasPassed : Chain → MemberLine → Type 0
HasPassed d line = Passes d line.key
