use Rattle.dubp_people_checks.proofs.asked.Asked.nobody_revoked_moves.Goals as goal

pub returns : goal.returns
returns c = λ chain asked. c.nobody_revoked_moves.ensures chain asked.at asked.asked.sound
