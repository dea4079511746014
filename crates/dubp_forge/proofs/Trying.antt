-- A text that is too long is the first that is found.
use Rattle.std.proofs.Common.{◌<◌, [], length, drop, Some, refl, arith}
use Rattle.dubp_block.specs.Text.{block_text}
use Rattle.dubp_block.specs.declared.block.Block.{Block}
use Rattle.dubp_rules.specs.declared.rule.Rule.TheVariants.{X01}
use Rattle.dubp_chain.specs.Chains.{Chain}
use Rattle.dubp_validity.specs.Rules.{longest_block}
use Rattle.dubp_verdict.specs.Verdicts.{Verdicts}
use Rattle.dubp_forging.specs.Drafts.{FirstBad, draft_rules}

pub too_long : (v : Verdicts) (c : Chain) (b : Block) → longest_block < length (block_text b) → FirstBad v c b (Some X01)
too_long v c b long = record {
  before = [];
  after = drop 1 draft_rules;
  stands = refl;
  passed = tt;
  fails = λ short. absurd (omega (arith, long, short));
}
