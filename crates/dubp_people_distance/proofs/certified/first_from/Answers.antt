use Rattle.std.proofs.Common.{arith}
use Rattle.std.proofs.lemmas.Grind.{common_steps}
use Rattle.dubp_people_distance.proofs.certified.first_from.Goals as goal

pub returns-in-Some-clause-least : goal.returns-in-Some-clause-least
returns-in-Some-clause-least c = λ q from there.
    let h = (c.range.ensures.in_range tt).2 q (from, tt) there in
    grind (arith, common_steps, h)

pub returns-in-None-clause-none : goal.returns-in-None-clause-none
returns-in-None-clause-none c = λ q from. (c.range.ensures.in_range tt).5 c.in-None.ensures.steps.0 q (from, tt)
