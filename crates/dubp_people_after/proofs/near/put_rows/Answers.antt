use Rattle.dubp_people_after.specs.Near.{is_end_of}
use Rattle.dubp_lists.proofs.OneMore.{any_more}
use Rattle.dubp_people_after.proofs.near.put_rows.Goals as goal

pub loop-row-preserved : goal.loop-row-preserved
loop-row-preserved c = λ k.
    any_more (is_end_of k) c.args.rows.now c.loop-row.row-index c.row-item.result _ _ _ c.loop-row-test.true c.row-item.is (c.loop-row.invariant k) (c.in_ok-insert_both.ensures k)
