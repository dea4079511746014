use Rattle.dubp_people_checks.proofs.judged.JudgedTwoChains.issuer_before.Goals as goal

pub returns : goal.returns
returns c = λ chain b shown. c.next_issuer.ensures chain shown.0
