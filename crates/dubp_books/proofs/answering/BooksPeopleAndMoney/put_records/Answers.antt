use Rattle.dubp_books.proofs.answering.BooksPeopleAndMoney.put_records.Goals as goal

pub returns-clause-appended : goal.returns-clause-appended
returns-clause-appended g c = λ d chain at sound blocks head left. c.in_ok-put_records.ensures.appended d chain (c.facts-facts.ensures _ at.0) sound blocks head left
