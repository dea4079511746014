use Rattle.dubp_people_checks.proofs.asked.Asked.certifications_are_signed.Goals as goal

pub returns : goal.returns
returns c = λ chain asked. c.certifications_are_signed.ensures chain asked.shown
