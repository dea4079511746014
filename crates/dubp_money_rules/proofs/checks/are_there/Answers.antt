use Rattle.dubp_money_rules.proofs.checks.are_there.Goals as goal

pub returns : goal.returns
returns c = λ head ch judged. c.inputs_are_there.ensures ch (c.sources.ensures ch judged.at) judged.asked judged.numbered
