use Rattle.std.proofs.Common.{[], sym, subst}
use Rattle.dubp_people.specs.OfRegistry.registry_tables_block as people
use Rattle.dubp_money_rules.specs.OfMoney.money_tables_block as money
use Rattle.dubp_books.proofs.books.Books.with_secret.Goals as goal

pub returns-clause-at : goal.returns-clause-at
returns-clause-at g c = (
  subst (λ t. (people.ghosts).at t []) (sym c.new.ensures.first) c.with_secret.ensures.at,
  subst (λ t. (money.ghosts).at t []) (sym c.new.ensures.second) c.with_secret-2.ensures.at,
)
