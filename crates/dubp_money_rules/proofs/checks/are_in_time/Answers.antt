use Rattle.dubp_money_rules.proofs.checks.are_in_time.Goals as goal

pub returns : goal.returns
returns c = λ keys head ch judged. c.transactions_are_in_time.ensures ch (c.facts.ensures ch judged.at) judged.asked
