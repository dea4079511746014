use Rattle.std.proofs.lemmas.Result.{on_ok_weaker}
use Rattle.dubp_people_apply.proofs.Entries.{none_out, ends_out}
use Rattle.dubp_people_apply.proofs.queue.take_ends_out.Goals as goal

pub returns-in-None-clause-entries : goal.returns-in-None-clause-entries
returns-in-None-clause-entries g c =
    λ waiting before is small has. none_out c.args.row.now before c.args.lasting c.args.key waiting c.in-None.is is has

pub returns-in_ok-take_out-in-Some-clause-entries : goal.returns-in_ok-take_out-in-Some-clause-entries
returns-in_ok-take_out-in-Some-clause-entries g c =
    on_ok_weaker c.take_out-in-Some.result
    (λ out waiting before is small has.
    ends_out c.args.lasting c.args.key waiting c.in-Some.row c.args.row.now before c.later-expiry.result c.twice_later-revocation.result c.in-Some.is is small c.later-expiry.ensures c.twice_later-revocation.ensures
    c.in_ok-take_out-in-Some.ensures.entries out has) c.take_out-in-Some.ensures.entries
