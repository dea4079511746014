use Rattle.dubp_people_checks.proofs.asked.Asked.stocks_are_kept.Goals as goal

pub returns : goal.returns
returns c = λ chain asked. c.in_ok-holds.ensures chain asked.shown
