use Rattle.dubp_people_checks.proofs.asked.Asked.live_pairs_are_renewed.Goals as goal

pub returns : goal.returns
returns c = λ chain asked. c.live_pairs_are_renewed.ensures chain asked.at asked.asked
