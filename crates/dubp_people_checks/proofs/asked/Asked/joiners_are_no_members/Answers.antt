use Rattle.dubp_people_checks.proofs.asked.Asked.joiners_are_no_members.Goals as goal

pub returns : goal.returns
returns c = λ chain asked. c.joiners_are_no_members.ensures chain asked.at asked.asked.sound
