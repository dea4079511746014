use Rattle.dubp_people_checks.proofs.asked.Asked.revocations_are_signed.Goals as goal

pub returns : goal.returns
returns c = λ chain asked. c.revocations_are_signed.ensures chain asked.at
