use Rattle.dubp_money.proofs.money.Money.with_secret.Goals as goal

pub returns-clause-at : goal.returns-clause-at
returns-clause-at c = rw (c.new-3.ensures.first, c.new-3.ensures.second, c.new-3.ensures.third) (c.new.ensures.at, c.no_tables.ensures.at, c.new-2.ensures.at)
