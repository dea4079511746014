use Rattle.dubp_people_checks.proofs.asked.Asked.issuers_waited.Goals as goal

pub returns : goal.returns
returns c = λ chain asked. c.issuers_waited.ensures chain asked.at asked.asked
