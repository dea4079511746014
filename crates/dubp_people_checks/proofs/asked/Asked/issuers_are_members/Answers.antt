use Rattle.dubp_people_checks.proofs.asked.Asked.issuers_are_members.Goals as goal

pub returns : goal.returns
returns c = λ chain asked. c.issuers_are_members.ensures chain asked.shown
