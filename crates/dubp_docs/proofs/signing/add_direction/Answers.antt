use Rattle.dubp_docs.proofs.signing.add_direction.Goals as goal

pub returns-then-membership : goal.returns-then-membership
returns-then-membership g c = rw c.if-membership.true c.add_line.ensures

pub returns-else-membership : goal.returns-else-membership
returns-else-membership g c = rw c.if-membership.false c.add_line-else-membership.ensures
