-- A block of a chain as the ledger keeps it. Protocol: chains; records.
use Rattle.std.specs.Prelude.{◌≡◌, ℕ, ◌∷◌, ◌++◌, length, Some}
use Rattle.dubp_block.specs.declared.block.Block.{Block}
use Rattle.dubp_block.specs.Text.{IsBlock}
use Rattle.dubp_chain.specs.declared.head.Head.{Head}
use Rattle.dubp_chain.specs.Chains.{Chain}
use Rattle.dubp_chain.specs.Heads.{head_of}
use Rattle.dubp_people_and_money.specs.OfKept.{left_behind, LeftBehind}

-- the block of this number, which has so many blocks below it, with its head and what it left behind there
pub record IsWrittenAt (c : Chain) (number : ℕ) (b : Block) (h : Head) (l : LeftBehind) : Type 0 where
  pub above : Chain
  pub below : Chain
  pub is : c ≡ above ++ b ∷ below
  pub number_is : length below ≡ number
  pub text : IsBlock b
  pub head : head_of (b ∷ below) ≡ Some h
  pub left : l ≡ left_behind below b
