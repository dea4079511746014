use Rattle.dubp_people.specs.OfRegistry.registry_tables_block as people
use Rattle.dubp_money_rules.specs.OfMoney.money_tables_block as money
use Rattle.dubp_books.proofs.Sides.{sides}
use Rattle.dubp_books.proofs.lending.BooksLendsPeopleAndMoney.people.Goals as goal

pub returns-clause-states : goal.returns-clause-states
returns-clause-states g c = λ s a.
    let t = c.args.self.now.tables in
    let p = t.first in
    let m = t.second in
    (sides ((people.ghosts).is ((people.ghosts).names p)) ((money.ghosts).is ((money.ghosts).names m)) ((people.ghosts).now p) ((money.ghosts).now m) ((people.ghosts).count p) ((money.ghosts).count m)
    ((people.ghosts).others p) ((money.ghosts).others m) s t.even t.even_ahead a).0
