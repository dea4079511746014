use Rattle.dubp_facts.proofs.Written.{certified}
use Rattle.dubp_facts.proofs.facts.Facts.certification_made.Goals as goal

pub returns-in-Some : goal.returns-in-Some
returns-in-Some c = λ chain at.
    rw c.time_in.ensures (certified chain c.args.block.now c.args.line.now c.in-Some.field-0 c.first.result c.time_of.result c.in-Some.is (c.first.ensures chain at) (c.time_of.ensures chain at))
