use Rattle.dubp_lists.proofs.OneMore.{any_more}
use Rattle.dubp_people_distance.specs.Moved.{is_joining}
use Rattle.dubp_people_distance.proofs.moved.put_joined.Goals as goal

pub loop-line-preserved : goal.loop-line-preserved
loop-line-preserved g c = λ chain b shown k.
    any_more (is_joining chain b k) c.args.lines.now c.loop-line.line-index c.line-item.result _ _ _ c.loop-line-test.true c.line-item.is (c.loop-line.invariant chain b shown k) (c.in_ok-put_joining.ensures chain b shown k)
