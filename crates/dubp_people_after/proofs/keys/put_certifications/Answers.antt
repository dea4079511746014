use Rattle.indexmap.specs.IndexMap.{get}
use Rattle.dubp_people_after.specs.Keys.{same_pair}
use Rattle.dubp_people_after.proofs.Lists.{one_pair_more}
use Rattle.dubp_people_after.proofs.keys.put_certifications.Goals as goal

pub loop-line-preserved : goal.loop-line-preserved
loop-line-preserved c =
    one_pair_more c.args.lines.now c.loop-line.line-index c.line-item.result (get same_pair c.loop-line.map) (get same_pair c.insert_certification.new.map) c.loop-line-test.true
    c.line-item.is c.loop-line.invariant c.in_ok-insert_certification.ensures
