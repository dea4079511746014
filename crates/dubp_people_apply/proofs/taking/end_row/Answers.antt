use Rattle.std.proofs.lemmas.Result.{on_ok_weaker}
use Rattle.std.proofs.Common.{refl, false}
use Rattle.dubp_cindex.specs.declared.row.CertRow.{CertRow}
use Rattle.dubp_validity.specs.Reduced.{set_ended}
use Rattle.dubp_people_apply.proofs.CertLines.{pair_changes_none, pair_changes_some}
use Rattle.dubp_people_apply.proofs.taking.end_row.Goals as goal

pub returns-in-None-clause-rows : goal.returns-in-None-clause-rows
returns-in-None-clause-rows g c =
    λ rows has. pair_changes_none set_ended c.args.from c.args.to rows c.row.result c.in-None.is c.row.ensures has

pub returns-in-Some-clause-rows : goal.returns-in-Some-clause-rows
returns-in-Some-clause-rows g c =
    on_ok_weaker c.put_row.result
    (λ put rows has. pair_changes_some set_ended c.args.from c.args.to rows (λ (m : CertRow). record m { live = false }) (λ r. refl) c.row.result c.in-Some.before c.in-Some.is c.row.ensures put has) c.put_row.ensures.at
