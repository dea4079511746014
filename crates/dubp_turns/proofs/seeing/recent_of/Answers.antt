use Rattle.std.proofs.Common.{◌≡◌, ◌-◌, ◌+◌, ◌∙◌, ap, arith, drop, map, reverse, suc, take}
use Rattle.dubp_block.specs.Text.{stamp_of}
use Rattle.dubp_choosing.proofs.Seen.{first_one, with_one}
use Rattle.dubp_turns.proofs.seeing.recent_of.Goals as goal

pub loop-count-init : goal.loop-count-init
loop-count-init g c =
    record {
      within = omega (arith, c.kept-count.ensures);
      items =
          c.in_ok-add_some.ensures
          ∙ first_one c.args.ledger.now.chain c.args.ledger.now.kept c.kept-count.result c.stamp_before.result c.new-recent.result.items c.kept-count.ensures c.new-recent.ensures.items c.stamp_before.ensures;
    }

pub loop-count-preserved : goal.loop-count-preserved
loop-count-preserved g c =
    let chain = c.args.ledger.now.chain in
    let kept = c.args.ledger.now.kept in
    let i = c.loop-count.invariant in
    let one : c.loop-count.count ≡ suc (c.loop-count.count - 1) = omega (arith, c.loop-count-test.true) in
    record {
      within = omega (arith, i.within);
      items =
          c.in_ok-add_some-2.ensures
          ∙ with_one chain (c.loop-count.count - 1) (kept + 1) c.stamp_before-in-loop-count.result c.loop-count.recent.items (omega (arith, i.within, c.loop-count-test.true))
          (i.items ∙ ap (λ n. reverse (drop n (take (kept + 1) (map stamp_of chain)))) one) c.stamp_before-in-loop-count.ensures;
    }
