-- Heads that follow one another from a first block on, each within the limits. Protocol: head values; rules.
use Rattle.std.specs.Prelude.{◌≡◌, ℕ, ◌^◌, ◌<◌, ◌≤◌, List, [], ◌∷◌, length, ⊤}
use Rattle.dubp_params.specs.declared.params.Params.{Params}
use Rattle.dubp_block.specs.declared.block.Block.{Block}
use Rattle.dubp_block.specs.Text.{IsBlock, size_of}
use Rattle.dubp_rules.specs.declared.rule.Rule.{Rule}
use Rattle.dubp_rules.specs.declared.rule.Rule.TheVariants.{X03, X04, X08}
use Rattle.dubp_chain.specs.declared.head.Head.{Head}
use Rattle.dubp_chain.specs.Heads.{next_head}
use Rattle.dubp_validity.specs.LocalRules.{NumbersAreSmall}
use Rattle.dubp_validity.specs.HeadRules.{NumeratorFits}

-- What each of the three limits says of the values at a block: `p` are the parameters, `count` is the number of members that the
-- chain has with the block, `hs` are the heads of the blocks before it.
abbrev pub LimitHolds : Params → ℕ → List Head → Block → Rule → Type 0
LimitHolds p count hs b X03 = NumeratorFits p count hs
LimitHolds p count hs b X04 = (next_head p count hs b).unit_base ≤ 15
LimitHolds p count hs b X08 = ((next_head p count hs b).dividend < 2 ^ 53) × ((next_head p count hs b).mass < 2 ^ 100)
LimitHolds p count hs b rule = ⊤

abbrev pub limit_rules : List Rule
limit_rules = X03 ∷ X04 ∷ X08 ∷ []

pub record KeepsLimits (p : Params) (count : ℕ) (hs : List Head) (b : Block) : Type 0 where
  pub x03 : LimitHolds p count hs b X03
  pub x04 : LimitHolds p count hs b X04
  pub x08 : LimitHolds p count hs b X08

-- the difficulty of a first block is bounded
abbrev pub BeginsLow : List Head → Block → Type 0
BeginsLow [] b = b.pow_min ≤ 1023
BeginsLow (h ∷ hs) b = ⊤

-- what a block keeps before its head is asked for
pub record MayFollow (count : ℕ) (hs : List Head) (b : Block) : Type 0 where
  pub text : IsBlock b
  pub size : size_of b < 2 ^ 53
  pub number : b.number ≡ length hs
  pub small : NumbersAreSmall b
  pub low : BeginsLow hs b
  pub few : count < 2 ^ 21

-- the head of some block that keeps that and the limits
pub record Follows (p : Params) (hs : List Head) (h : Head) : Type 0 where
  pub block : Block
  pub count : ℕ
  pub may : MayFollow count hs block
  pub limits : KeepsLimits p count hs block
  pub is : h ≡ next_head p count hs block

-- the heads of some chain with these parameters whose blocks all keep that, newest first
abbrev pub AreHeads : Params → List Head → Type 0
AreHeads p [] = ⊤
AreHeads p (h ∷ hs) = Follows p hs h × AreHeads p hs
