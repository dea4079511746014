use Rattle.dubp_people_checks.proofs.people.people_rules.Goals as goal

pub first_broken_of_people-requires : goal.first_broken_of_people-requires
first_broken_of_people-requires c =
    let asks = c.requires in
    let chain = asks.0 in
    let asked = asks.1.1.1.0 in
    (chain, (asks.1.1.0, record { sound = asked.sound; block = asked.block; is_next = c.next_of-next.ensures chain (c.facts.ensures chain asks.1.1.0) asks.1.1.1.1; before = asked.before }))

pub returns : goal.returns
returns c = λ chain next at asked head.
    c.in_ok-found.ensures chain at
    (record { sound = asked.sound; block = asked.block; is_next = c.next_of-next.ensures chain (c.facts.ensures chain at) head; before = asked.before })
