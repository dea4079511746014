use Rattle.dubp_people.proofs.writing.write_indexes.Goals as goal

pub returns-clause-indexes : goal.returns-clause-indexes
returns-clause-indexes g c = λ chain facts written since at queue. (
  c.in_ok-write_identities.ensures.at chain written.sound at.0,
  (c.in_ok-write_ends.ensures.left chain facts written since (record { memberships = at.1; certifications = at.2; queue = queue })).memberships,
  (c.in_ok-write_ends.ensures.left chain facts written since (record { memberships = at.1; certifications = at.2; queue = queue })).certifications,
)
