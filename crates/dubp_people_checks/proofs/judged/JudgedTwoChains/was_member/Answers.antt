use Rattle.dubp_people_checks.proofs.judged.JudgedTwoChains.was_member.Goals as goal

pub returns : goal.returns
returns c = λ chain b shown. c.is_member.ensures chain shown.0 shown.1.1.sound
