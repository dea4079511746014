use Rattle.dubp_lists.proofs.OneMore.{any_more}
use Rattle.dubp_people_distance.specs.Ends.{is_end_of_line}
use Rattle.dubp_people_distance.proofs.changed.put_lines.Goals as goal

pub loop-line-preserved : goal.loop-line-preserved
loop-line-preserved g c = record {
  certified = λ chain b shown before. c.in_ok-put_both.ensures.certified chain b shown (c.loop-line.invariant.certified chain b shown before);
  has = λ k. any_more (is_end_of_line k) c.args.lines.now c.loop-line.line-index c.line-item.result _ _ _ c.loop-line-test.true c.line-item.is (c.loop-line.invariant.has k) (c.in_ok-put_both.ensures.has k);
}
