use Rattle.dubp_people_checks.proofs.asked.Asked.identities_are_few.Goals as goal

pub returns : goal.returns
returns c = λ chain asked. c.identities_are_few.ensures chain asked.at asked.asked.sound
