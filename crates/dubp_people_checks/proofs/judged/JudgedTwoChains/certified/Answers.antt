use Rattle.dubp_people_checks.proofs.judged.JudgedTwoChains.certified.Goals as goal

pub returns : goal.returns
returns c = λ chain b shown. c.in_ok-found.ensures chain b shown.1.0
