use Rattle.dubp_people_checks.proofs.judged.JudgedTwoChains.count_before.Goals as goal

pub returns : goal.returns
returns c = λ chain b shown. c.members.ensures chain shown.0 shown.1.1.sound
