use Rattle.dubp_people_checks.proofs.asked.Asked.memberships_are_apart.Goals as goal

pub returns : goal.returns
returns c = λ chain asked. c.memberships_are_apart.ensures chain asked.at asked.asked
