use Rattle.std.proofs.Common.{◌∙◌, ◌<◌, ap, subst}
use Rattle.dubp_gen.proofs.Copied.{copied_more, found_there}
use Rattle.dubp_gen.proofs.making.copy_blocks.Goals.{in-Some+in_ok-push_copy, in_default}
use Rattle.dubp_gen.proofs.making.copy_blocks.Goals as goal

pub loop-number-preserved : goal.loop-number-preserved
loop-number-preserved g c =
    let chain = c.args.ledger.now.chain in
    let within = subst (λ n. c.loop-number.number < n) c.len-number-end.ensures c.loop-number-test.true in
    elim c.match-block_at.branch [
      | in-Some+in_ok-push_copy w ↦ ap (λ v. v.items) w.blocks-is ∙ copied_more chain c.loop-number.number within c.loop-number.blocks.items _ w.in-Some.block.now w.in-Some.ensures.1 c.loop-number.invariant w.in_ok-push_copy.ensures
      | in_default w ↦ absurd (found_there chain c.loop-number.number within w.in_default.ensures)
    ]
