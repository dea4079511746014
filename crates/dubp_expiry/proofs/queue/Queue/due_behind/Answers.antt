use Rattle.dubp_expiry.proofs.Found.{due_behind_time, due_behind_entry}
use Rattle.dubp_expiry.proofs.queue.Queue.due_behind.Goals as goal

pub returns-then-time-now-clause-found : goal.returns-then-time-now-clause-found
returns-then-time-now-clause-found c = λ s is.
    (due_behind_time c.args.self.now.tables.table.now s c.args.now c.next_from.result c.until.result c.until.ensures c.args.behind c.in-Time.time c.in-Time.is is (c.next_from.ensures.found, c.next_from.ensures.none)).found

pub returns-then-time-now-clause-none : goal.returns-then-time-now-clause-none
returns-then-time-now-clause-none c = λ s is.
    (due_behind_time c.args.self.now.tables.table.now s c.args.now c.next_from.result c.until.result c.until.ensures c.args.behind c.in-Time.time c.in-Time.is is (c.next_from.ensures.found, c.next_from.ensures.none)).none

pub returns-in-Entry-clause-found : goal.returns-in-Entry-clause-found
returns-in-Entry-clause-found c = λ s is.
    (due_behind_entry c.args.self.now.tables.table.now s c.args.now c.next_after.result c.until-in-Entry.result c.until-in-Entry.ensures c.args.behind c.in-Entry.time c.in-Entry.due c.in-Entry.is is (c.next_after.ensures.found, c.next_after.ensures.none)).found

pub returns-in-Entry-clause-none : goal.returns-in-Entry-clause-none
returns-in-Entry-clause-none c = λ s is.
    (due_behind_entry c.args.self.now.tables.table.now s c.args.now c.next_after.result c.until-in-Entry.result c.until-in-Entry.ensures c.args.behind c.in-Entry.time c.in-Entry.due c.in-Entry.is is (c.next_after.ensures.found, c.next_after.ensures.none)).none
