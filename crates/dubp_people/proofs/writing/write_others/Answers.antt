use Rattle.dubp_people.proofs.writing.write_others.Goals as goal

pub returns-clause-at : goal.returns-clause-at
returns-clause-at g c = λ chain written next ended at queued noted facts. (
  queued,
  c.in_ok-write_kicked.ensures.at chain written ended at noted,
  c.in_ok-write_facts.ensures.at chain facts next,
)
