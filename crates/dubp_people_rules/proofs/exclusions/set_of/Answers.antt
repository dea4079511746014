use Rattle.dubp_people_rules.proofs.Sets.{one_more}
use Rattle.dubp_people_rules.proofs.exclusions.set_of.Goals as goal

pub loop-key-preserved : goal.loop-key-preserved
loop-key-preserved c = λ k. one_more c.args.keys.now c.loop-key.key-index c.key-item.result k _ _ c.loop-key-test.true c.key-item.is (c.in_ok-insert.ensures k) (c.loop-key.invariant k)
