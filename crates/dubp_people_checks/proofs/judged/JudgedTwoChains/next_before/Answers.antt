use Rattle.dubp_people_checks.proofs.judged.JudgedTwoChains.next_before.Goals as goal

pub returns : goal.returns
returns c = λ chain b shown. c.next_member.ensures chain shown.0 shown.1.1.sound
