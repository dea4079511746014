use Rattle.dubp_people_after.proofs.after.AfterWithBlock.near.Goals as goal

pub returns-clause-issuers : goal.returns-clause-issuers
returns-clause-issuers c = c.in_ok-put_near.ensures.issuers

pub returns-clause-receivers : goal.returns-clause-receivers
returns-clause-receivers c = c.in_ok-put_near.ensures.receivers
