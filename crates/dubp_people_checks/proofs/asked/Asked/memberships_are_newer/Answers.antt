use Rattle.dubp_people_checks.proofs.asked.Asked.memberships_are_newer.Goals as goal

pub returns : goal.returns
returns c = λ chain asked. c.memberships_are_newer.ensures chain asked.at
