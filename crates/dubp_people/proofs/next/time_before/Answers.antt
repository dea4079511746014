use Rattle.std.proofs.Common.{◌∙◌, arith}
use Rattle.dubp_people.proofs.Last.{last-time, no-time}
use Rattle.dubp_people.proofs.next.time_before.Goals as goal

pub returns-in-Some : goal.returns-in-Some
returns-in-Some c = λ chain at sound next. c.time_numbered.ensures chain at ∙ last-time chain sound c.in-Some.last (omega (arith, c.in-Some.ensures, next))

pub returns-in-None : goal.returns-in-None
returns-in-None c = λ chain at sound next. no-time chain (omega (arith, c.in-None.ensures, next))
