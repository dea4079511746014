-- What is found of a block on a chain. Protocol: rules.
use Rattle.std.specs.Prelude.{◌≡◌, false, ◌∷◌, Some, None, []}
use Rattle.dubp_params.specs.declared.params.Params.{Params}
use Rattle.dubp_params.specs.Ranges.{IsInRange}
use Rattle.dubp_block.specs.declared.block.Block.{Block}
use Rattle.dubp_block.specs.Text.{IsBlock}
use Rattle.dubp_rules.specs.declared.rule.Rule.{Rule}
use Rattle.dubp_rules.specs.declared.rule.Rule.TheVariants.{G50}
use Rattle.dubp_rules.specs.Table.{StandsBefore, table_rules}
use Rattle.dubp_verdict.specs.Verdicts.{Verdicts}
use Rattle.dubp_chain.specs.declared.head.Head.{Head}
use Rattle.dubp_chain.specs.Chains.{Chain, params}
use Rattle.dubp_chain.specs.Heads.{head_of, heads_of}
use Rattle.dubp_validity.specs.Rules.{Holds, FirstBroken, IsSound, reads_verdicts}
use Rattle.dubp_rules.specs.First.{IsFirst}
use Rattle.dubp_kept.specs.OfLocal.{AreParamsOf, all_hashes, made_hashes}
use Rattle.dubp_kept.specs.OfLocal.{Asked, Checked}
use Rattle.dubp_kept.specs.OfLocal.checked_variants as checked
use Rattle.dubp_kept.specs.Parts.{opening_rules}
use Rattle.dubp_kept.specs.Asking.{Asks, WhereSigned}
use Rattle.dubp_head.specs.Following.{Follows}
use Rattle.dubp_kept.specs.KeptChain.{AreBlocks, MayJoin, stated_params}
use Rattle.dubp_kept.specs.declared.judgement.Judgement.{Judgement}
use Rattle.dubp_kept.specs.declared.judgement.Judgement.TheVariants.{Breaks, Keeps}

-- each rule up to X08 that reads no verdict holds of the block, whose head this is; these are the parameters of both
pub record IsToJudge (c : Chain) (b : Block) (h : Head) (p : Params) : Type 0 where
  pub sound : IsSound c
  pub blocks : AreBlocks c
  pub block : IsBlock b
  pub head : head_of (b ∷ c) ≡ Some h
  pub same : p ≡ params (b ∷ c)
  pub before : (rule : Rule) → reads_verdicts rule ≡ false → StandsBefore rule G50 → Holds [] c b rule

-- the head follows those of the chain, and the parameters of both are in range
pub record HeadFits (c : Chain) (b : Block) (h : Head) : Type 0 where
  pub follows : Follows (params (b ∷ c)) (heads_of c) h
  pub steered : IsInRange (params (b ∷ c))
  pub stated : AreParamsOf (stated_params (b ∷ c)) (b ∷ c)

-- what the rules up to G51 say of the block, as they are asked, and its hashes where it breaks none
abbrev pub Opened : Asked → Verdicts → Chain → Block → Checked → Type 0
Opened asked v c b (checked.Breaks rule) = IsFirst (Asks asked v c b) opening_rules (Some rule)
Opened asked v c b (checked.Keeps hashes) = IsFirst (Asks asked v c b) opening_rules None × (hashes ≡ made_hashes b)

-- the first rule of the table that the block breaks, as they are asked, or none; and then it may join the chain where it is signed
abbrev pub JudgedAsked : Asked → Verdicts → Chain → Block → Judgement → Type 0
JudgedAsked asked v c b (Breaks rule) = IsFirst (Asks asked v c b) table_rules (Some rule)
JudgedAsked asked v c b (Keeps head p hashes) = IsFirst (Asks asked v c b) table_rules None × WhereSigned asked (MayJoin c b head p) × (hashes ≡ all_hashes b)

-- the first rule of the table that the block breaks, or none, and then it may join the chain
abbrev pub Judged : Verdicts → Chain → Block → Judgement → Type 0
Judged v c b (Breaks rule) = FirstBroken v c b (Some rule)
Judged v c b (Keeps head p hashes) = FirstBroken v c b None × MayJoin c b head p × (hashes ≡ all_hashes b)
