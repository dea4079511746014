use Rattle.std.proofs.lemmas.Result.{on_ok_weaker}
use Rattle.dubp_people_apply.proofs.Entries.{replanned_pair}
use Rattle.dubp_people_apply.proofs.certifications.replan.Goals as goal

pub returns-clause-entries : goal.returns-clause-entries
returns-clause-entries g c =
    on_ok_weaker c.plan_later.result
    (λ right waiting before replaced has.
    replanned_pair c.args.next.now.time c.args.next.now.params.sig_validity c.args.made c.args.line.now.from c.args.line.now.to waiting c.args.row.now before c.later-end.result replaced c.later-end.ensures
    c.in_ok-take_end_out.ensures.entries right has) c.plan_later.ensures.entries
