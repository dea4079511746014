use Rattle.dubp_expiry.proofs.Found.{due_of_all}
use Rattle.dubp_expiry.proofs.queue.Queue.due.Goals as goal

pub returns-clause-found : goal.returns-clause-found
returns-clause-found c = λ s is. (due_of_all c.args.self.now.tables.table.now s c.args.now c.next_after.result c.until.result c.until.ensures is (c.next_after.ensures.found, c.next_after.ensures.none)).found

pub returns-clause-none : goal.returns-clause-none
returns-clause-none c = λ s is. (due_of_all c.args.self.now.tables.table.now s c.args.now c.next_after.result c.until.result c.until.ensures is (c.next_after.ensures.found, c.next_after.ensures.none)).none
