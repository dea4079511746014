-- A block that stands to be judged on the money of a chain, with the hashes of its transactions. Protocol: rules; money.
use Rattle.std.specs.Prelude.{◌≡◌, List, ◌∷◌, Some}
use Rattle.dubp_atoms.specs.Same.{Text}
use Rattle.dubp_block.specs.declared.block.Block.{Block}
use Rattle.dubp_chain.specs.Chains.{Chain}
use Rattle.dubp_chain.specs.Heads.{head_of}
use Rattle.dubp_chain.specs.declared.head.Head.{Head}
use Rattle.dubp_money_rules.specs.OfLeft.{IsAsked}
use Rattle.dubp_money_rules.specs.OfLeft.{Next}
use Rattle.dubp_money_rules.specs.OfMoney.{Money}
use Rattle.dubp_money_rules.specs.OfMoney.money_tables_block as tables
use Rattle.dubp_money_rules.specs.Spending.{AreNumbered, HaveConditions}

-- the tables are those of the chain, the block stands to be judged on it, and these are its head and the hashes of its transactions
pub record IsJudged (money : Money) (keys : List Text) (h : Head) (next : Next) (b : Block) (c : Chain) : Type 0 where
  pub at : (tables.ghosts).at money c
  pub asked : IsAsked c b next
  pub head : head_of (b ∷ c) ≡ Some h
  pub conditions : HaveConditions c
  pub numbered : AreNumbered keys b
