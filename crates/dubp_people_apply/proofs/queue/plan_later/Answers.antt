use Rattle.std.proofs.lemmas.Result.{on_ok_weaker}
use Rattle.dubp_people_apply.proofs.Entries.{put_in, is_later, is_over}
use Rattle.dubp_people_apply.proofs.queue.plan_later.Goals as goal

pub returns-then-now-time-clause-entries : goal.returns-then-now-time-clause-entries
returns-then-now-time-clause-entries g c =
    on_ok_weaker c.plan.result (λ at waiting has. is_later c.args.now c.args.time c.args.due waiting c.if-now-time.true (put_in c.args.time c.args.due waiting at has)) c.plan.ensures.at

pub returns-else-now-time-clause-entries : goal.returns-else-now-time-clause-entries
returns-else-now-time-clause-entries g c waiting has = is_over c.args.now c.args.time c.args.due waiting c.if-now-time.false has
