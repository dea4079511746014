use Rattle.indexmap.specs.IndexMap.{get}
use Rattle.dubp_atoms.specs.Same.{same_text}
use Rattle.dubp_people_after.proofs.Lists.{one_line_more}
use Rattle.dubp_people_after.proofs.keys.put_identities.Goals as goal

pub loop-line-preserved : goal.loop-line-preserved
loop-line-preserved c =
    one_line_more c.args.lines.now c.loop-line.line-index c.line-item.result (get same_text c.loop-line.map) (get same_text c.insert_line.new.map) c.loop-line-test.true c.line-item.is
    c.loop-line.invariant c.in_ok-insert_line.ensures
