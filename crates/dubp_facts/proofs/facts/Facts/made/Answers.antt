use Rattle.dubp_facts.proofs.Written.{stamped}
use Rattle.dubp_facts.proofs.facts.Facts.made.Goals as goal

pub returns-in-Some : goal.returns-in-Some
returns-in-Some c = λ chain at sound.
    rw c.time_of_hash.ensures (stamped chain c.args.block.now c.args.stamp.now c.in-Some.field-0 c.first.result c.time_of.result sound c.in-Some.is (c.first.ensures chain at) (c.time_of.ensures chain at))
