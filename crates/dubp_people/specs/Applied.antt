-- A block that may be written behind a chain. Protocol: chains; rules.
use Rattle.std.specs.Prelude.{◌≡◌, ◌∷◌, Some}
use Rattle.dubp_block.specs.declared.block.Block.{Block}
use Rattle.dubp_block.specs.Text.{IsBlock}
use Rattle.dubp_chain.specs.declared.head.Head.{Head}
use Rattle.dubp_chain.specs.Chains.{Chain}
use Rattle.dubp_chain.specs.Heads.{head_of}
use Rattle.dubp_validity.specs.Rules.{IsSound}

-- it keeps on the chain each rule that reads no verdict, and this is the head of the chain with it
pub record IsApplied (c : Chain) (b : Block) (h : Head) : Type 0 where
  pub sound : IsSound (b ∷ c)
  pub block : IsBlock b
  pub head : head_of (b ∷ c) ≡ Some h
