use Rattle.std.proofs.lemmas.Result.{on_ok_weaker}
use Rattle.dubp_people_apply.proofs.Entries.{none_out_pair, end_out}
use Rattle.dubp_people_apply.proofs.certifications.take_end_out.Goals as goal

pub returns-in-None-clause-entries : goal.returns-in-None-clause-entries
returns-in-None-clause-entries g c =
    λ waiting before is small has. none_out_pair c.args.row.now before c.args.lasting c.args.from c.args.to waiting c.in-None.is is has

pub returns-in-Some-clause-entries : goal.returns-in-Some-clause-entries
returns-in-Some-clause-entries g c =
    on_ok_weaker c.take_out.result
    (λ out waiting before is small has. end_out c.args.lasting c.args.from c.args.to waiting c.in-Some.row c.args.row.now before c.later-end.result c.in-Some.is is small c.later-end.ensures out has) c.take_out.ensures.entries
