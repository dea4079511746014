use Rattle.dubp_people_checks.proofs.asked.Asked.excluded_are_kicked.Goals as goal

pub returns : goal.returns
returns c = λ chain asked. c.excluded_are_kicked.ensures chain asked.at
