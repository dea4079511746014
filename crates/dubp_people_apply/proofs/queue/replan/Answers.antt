use Rattle.std.proofs.lemmas.Result.{on_ok_weaker}
use Rattle.dubp_people_apply.proofs.Entries.{replanned}
use Rattle.dubp_people_apply.proofs.queue.replan.Goals as goal

pub returns-clause-entries : goal.returns-clause-entries
returns-clause-entries g c =
    on_ok_weaker c.plan_later-2.result
    (λ right waiting before replaced has.
    replanned c.args.now c.args.lasting c.args.made c.args.key waiting c.args.row.now before c.later-expiry.result c.twice_later-revocation.result replaced c.later-expiry.ensures c.twice_later-revocation.ensures
    c.in_ok-take_ends_out.ensures.entries c.in_ok-plan_later.ensures.entries right has) c.plan_later-2.ensures.entries
