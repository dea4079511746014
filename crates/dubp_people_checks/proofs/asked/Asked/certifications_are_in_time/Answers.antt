use Rattle.dubp_people_checks.proofs.asked.Asked.certifications_are_in_time.Goals as goal

pub returns : goal.returns
returns c = λ chain asked. c.certifications_are_in_time.ensures chain asked.at asked.asked
