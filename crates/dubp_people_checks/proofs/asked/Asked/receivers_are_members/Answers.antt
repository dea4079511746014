use Rattle.dubp_people_checks.proofs.asked.Asked.receivers_are_members.Goals as goal

pub returns : goal.returns
returns c = λ chain asked. c.receivers_are_members.ensures chain asked.shown
