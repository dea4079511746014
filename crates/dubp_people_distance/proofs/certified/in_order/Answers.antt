use Rattle.std.proofs.Common.{false}
use Rattle.dubp_people_distance.proofs.Sets.{one_more_at}
use Rattle.dubp_people_distance.proofs.certified.in_order.Goals as goal

pub loop-i-preserved : goal.loop-i-preserved
loop-i-preserved c = λ k. one_more_at c.args.keys.now.keys c.loop-i.i c.index.result.now k false _ _ c.index.ensures (c.loop-i.invariant k) (c.in_ok-insert_key.ensures k)
