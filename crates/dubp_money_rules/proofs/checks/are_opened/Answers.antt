use Rattle.dubp_money_rules.proofs.checks.are_opened.Goals as goal

pub returns : goal.returns
returns c = λ head ch judged. c.in_ok-opened.ensures ch (c.sources.ensures ch judged.at) judged.asked judged.conditions judged.numbered
