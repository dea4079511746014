use Rattle.dubp_people_checks.proofs.asked.Asked.receivers_stay.Goals as goal

pub returns : goal.returns
returns c = λ chain asked. c.receivers_stay.ensures chain asked.shown
