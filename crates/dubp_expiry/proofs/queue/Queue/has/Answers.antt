use Rattle.std.proofs.Common.{Some, is_some, ap, ◌∙◌}
use Rattle.dubp_expiry.proofs.queue.Queue.has.Goals as goal

pub returns : goal.returns
returns c = λ s is. c.is_some.ensures ∙ ap is_some (c.get.ensures ∙ is (c.args.time, Some c.args.due.now))
