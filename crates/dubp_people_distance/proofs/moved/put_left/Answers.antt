use Rattle.dubp_lists.proofs.OneMore.{any_more}
use Rattle.dubp_people_distance.specs.Moved.{is_leaving}
use Rattle.dubp_people_distance.proofs.moved.put_left.Goals as goal

pub loop-key-preserved : goal.loop-key-preserved
loop-key-preserved g c = λ chain b shown k.
    any_more (is_leaving chain b k) c.args.keys.now c.loop-key.key-index c.key-item.result _ _ _ c.loop-key-test.true c.key-item.is (c.loop-key.invariant chain b shown k) (c.in_ok-put_leaving.ensures chain b shown k)
