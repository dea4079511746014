use Rattle.dubp_money_rules.proofs.checks.have_ended.Goals as goal

pub returns : goal.returns
returns c = λ head ch judged. c.locktimes_have_ended.ensures ch (c.sources.ensures ch judged.at) judged.asked judged.numbered
