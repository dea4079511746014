-- A block that stands to be judged on a chain, or to be written behind it. Protocol: rules; people.
use Rattle.std.specs.Prelude.{◌≡◌, false, [], ◌∷◌}
use Rattle.dubp_rules.specs.declared.rule.Rule.{Rule}
use Rattle.dubp_rules.specs.declared.rule.Rule.TheVariants.{G50}
use Rattle.dubp_rules.specs.Table.{StandsBefore}
use Rattle.dubp_block.specs.declared.block.Block.{Block}
use Rattle.dubp_block.specs.Text.{IsBlock}
use Rattle.dubp_chain.specs.Chains.{Chain, params}
use Rattle.dubp_chain.specs.Heads.{time_of}
use Rattle.dubp_facts.specs.OfValidity.{Holds, IsSound, reads_verdicts}
use Rattle.dubp_left.specs.declared.next.Next.{Next}

-- the parameters and the time of the chain with the block
pub record IsNext (c : Chain) (b : Block) (next : Next) : Type 0 where
  pub params : next.params ≡ params (b ∷ c)
  pub time : next.time ≡ time_of (b ∷ c)

-- it stands to be judged: each rule up to X08 that reads no verdict holds of it
pub record IsAsked (c : Chain) (b : Block) (next : Next) : Type 0 where
  pub sound : IsSound c
  pub block : IsBlock b
  pub is_next : IsNext c b next
  pub before : (rule : Rule) → reads_verdicts rule ≡ false → StandsBefore rule G50 → Holds [] c b rule

-- it stands to be written: each rule that reads no verdict holds of it
pub record IsWritten (c : Chain) (b : Block) (next : Next) : Type 0 where
  pub sound : IsSound (b ∷ c)
  pub block : IsBlock b
  pub is_next : IsNext c b next
