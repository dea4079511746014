use Rattle.dubp_expiry.proofs.Put.{empty_at}
use Rattle.dubp_expiry.proofs.queue.Queue.new.Goals as goal

pub returns-clause-at : goal.returns-clause-at
returns-clause-at c = empty_at _ c.new.ensures.now
