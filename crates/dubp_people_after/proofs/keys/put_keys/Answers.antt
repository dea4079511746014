use Rattle.dubp_lists.proofs.OneMore.{one_key_more}
use Rattle.dubp_people_after.proofs.keys.put_keys.Goals as goal

pub loop-line-preserved : goal.loop-line-preserved
loop-line-preserved c =
    one_key_more c.args.lines.now c.loop-line.line-index c.line-item.result c.args.set.now.keys c.loop-line.set.keys c.insert.new.set.keys c.loop-line-test.true c.line-item.is
    c.loop-line.invariant c.in_ok-insert.ensures.has
