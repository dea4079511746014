use Rattle.dubp_people_checks.proofs.judged.JudgedTwoChains.counts_before.Goals as goal

pub returns-clause-stock : goal.returns-clause-stock
returns-clause-stock c = λ chain b shown. c.stock.ensures chain shown.0

pub returns-clause-received : goal.returns-clause-received
returns-clause-received c = λ chain b shown. c.received.ensures chain shown.0
