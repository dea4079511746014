use Rattle.dubp_people_checks.proofs.asked.Asked.uids_are_new.Goals as goal

pub returns : goal.returns
returns c = λ chain asked. c.uids_are_new.ensures chain asked.at asked.asked.sound
