use Rattle.dubp_people_checks.proofs.asked.Asked.revoked_have_identities.Goals as goal

pub returns : goal.returns
returns c = λ chain asked. c.revoked_have_identities.ensures chain asked.at asked.asked.sound
