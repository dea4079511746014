use Rattle.dubp_people_checks.proofs.asked.Asked.actives_are_members.Goals as goal

pub returns : goal.returns
returns c = λ chain asked. c.actives_are_members.ensures chain asked.at asked.asked.sound
