use Rattle.dubp_people_checks.proofs.asked.Asked.kicked_are_excluded.Goals as goal

pub returns : goal.returns
returns c = λ chain asked. c.in_ok-holds.ensures chain asked.at
