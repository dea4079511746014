use Rattle.dubp_people_checks.proofs.asked.Asked.memberships_have_identities.Goals as goal

pub returns : goal.returns
returns c = λ chain asked. c.memberships_have_identities.ensures chain asked.shown
