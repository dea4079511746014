use Rattle.dubp_people_checks.proofs.asked.Asked.identities_are_new.Goals as goal

pub returns : goal.returns
returns c = λ chain asked. c.identities_are_new.ensures chain asked.at
