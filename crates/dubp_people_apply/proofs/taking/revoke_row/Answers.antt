use Rattle.std.proofs.lemmas.Result.{on_ok_weaker}
use Rattle.std.proofs.Common.{refl, true}
use Rattle.dubp_mindex.specs.declared.member.MemberRow.{MemberRow}
use Rattle.dubp_steps.specs.AfterLines.{set_revoked}
use Rattle.dubp_people_apply.proofs.MemberLines.{changes_none, changes_some}
use Rattle.dubp_people_apply.proofs.taking.revoke_row.Goals as goal

pub returns-in-None-clause-rows : goal.returns-in-None-clause-rows
returns-in-None-clause-rows g c =
    λ rows has. changes_none set_revoked c.args.key rows c.row.result c.in-None.is c.row.ensures has

pub returns-in-Some-clause-rows : goal.returns-in-Some-clause-rows
returns-in-Some-clause-rows g c =
    on_ok_weaker c.put_row.result
    (λ put rows has. changes_some set_revoked c.args.key rows (λ (m : MemberRow). record m { revoked = true }) (λ r. refl) c.row.result c.in-Some.before c.in-Some.is c.row.ensures put has) c.put_row.ensures.at
