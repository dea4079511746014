use Rattle.std.proofs.Common.{◌∙◌, sym}
use Rattle.dubp_expiry.proofs.Put.{cancelled_before, cancelled, one_fewer}
use Rattle.dubp_expiry.proofs.queue.Queue.cancel.Goals as goal

pub returns-then-not-has-clause-at : goal.returns-then-not-has-clause-at
returns-then-not-has-clause-at g c = λ s t is. cancelled_before c.args.self.now.tables.table.now s c.args.time c.args.due is t (sym (c.has.ensures s is) ∙ c.if-not-has.true)

pub returns-clause-at : goal.returns-clause-at
returns-clause-at g c = λ s t is. cancelled c.args.self.now.tables.table.now s c.args.time c.args.due is c.set.new.self.table.now t c.in_ok-set.ensures.now

pub returns-clause-fewer : goal.returns-clause-fewer
returns-clause-fewer g c = λ s is has. one_fewer c.args.self.now.tables.table.now s c.args.time c.args.due is c.set.new.self.table.now c.in_ok-set.ensures.now has
