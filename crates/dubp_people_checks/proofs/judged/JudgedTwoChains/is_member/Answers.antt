use Rattle.dubp_people_checks.proofs.judged.JudgedTwoChains.is_member.Goals as goal

pub returns : goal.returns
returns c = λ chain b shown. c.is_member.ensures chain b shown.1.0
