use Rattle.std.proofs.Common.{◌<◌, refl, sym, ◌∙◌, true≢false, below_more, arith}
use Rattle.dubp_local.proofs.unlocks.each_is_unlocked.Goals as goal

pub returns-then-counts-input-ne1 : goal.returns-then-counts-input-ne1
returns-then-counts-input-ne1 c =
    let few : c.loop-input.input < 100 = omega arith in (
      λ holds. absurd (true≢false (sym holds)),
      λ each. absurd (c.if-counts-input-ne1.true (c.unlock_counts-counts.ensures c.loop-input.input few ∙ each c.loop-input.input c.loop-input-test.true)),
    )

pub loop-input-preserved : goal.loop-input-preserved
loop-input-preserved c =
    let few : c.loop-input.input < 100 = omega arith in
    below_more _ _ c.loop-input.invariant (sym (c.unlock_counts-counts.ensures c.loop-input.input few) ∙ c.if-counts-input-ne1.false)

pub returns : goal.returns
returns c = (λ _ i small. c.loop-input.invariant i (omega arith), λ _. refl)
