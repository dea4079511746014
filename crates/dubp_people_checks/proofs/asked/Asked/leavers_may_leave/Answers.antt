use Rattle.dubp_people_checks.proofs.asked.Asked.leavers_may_leave.Goals as goal

pub returns : goal.returns
returns c = λ chain asked. c.leavers_may_leave.ensures chain asked.at asked.asked.sound
