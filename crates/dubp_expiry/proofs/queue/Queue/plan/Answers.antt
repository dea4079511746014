use Rattle.std.proofs.Common.{◌∙◌, sym}
use Rattle.dubp_expiry.proofs.Put.{planned_before, planned}
use Rattle.dubp_expiry.proofs.queue.Queue.plan.Goals as goal

pub returns-then-has-clause-at : goal.returns-then-has-clause-at
returns-then-has-clause-at g c = λ s t is. planned_before c.args.self.now.tables.table.now s c.args.time c.args.due is t (sym (c.has.ensures s is) ∙ c.if-has.true)

pub returns-clause-at : goal.returns-clause-at
returns-clause-at g c = λ s t is. planned c.args.self.now.tables.table.now s c.args.time c.args.due is c.set.new.self.table.now t c.in_ok-set.ensures.now
