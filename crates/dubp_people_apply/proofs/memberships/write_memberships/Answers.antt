use Rattle.std.proofs.Common.{List, subst, fold}
use Rattle.dubp_block.specs.declared.block.MemberLine.{MemberLine}
use Rattle.dubp_block.specs.declared.block.RevokedLine.{RevokedLine}
use Rattle.dubp_mindex.specs.contracts.member.MIndexTablesMemberRows.TheImpl as mindex
use Rattle.dubp_expiry.specs.contracts.queue.QueueTablesEntries.TheImpl as queue_tables
use Rattle.dubp_steps.specs.AfterLines.{enter_line, leave_line, revoke_line, enter_queue, revoke_queue}
use Rattle.dubp_people_apply.specs.Lines.{Stands}
use Rattle.std.proofs.lemmas.Result.{on_ok_weaker}
use Rattle.dubp_people_apply.proofs.memberships.write_memberships.Goals as goal

pub returns-clause-stands : goal.returns-clause-stands
returns-clause-stands g c =
    on_ok_weaker c.revoke_all.result
    (λ last chain rows waiting facts written stands.
    subst (λ (p : List MemberLine × (List MemberLine × (List MemberLine × List RevokedLine))). Stands chain c.args.block.now ((mindex.ghosts).at c.revoke_all.new.memberships) ((queue_tables.ghosts).at c.revoke_all.new.queue)
    (λ k. fold (revoke_line k) (fold (leave_line c.args.block.now k) (fold (enter_line chain c.args.block.now k) (fold (enter_line chain c.args.block.now k) (rows k) p.0) p.1.0) p.1.1.0) p.1.1.1)
    (λ time due. fold (revoke_queue due) (fold (enter_queue chain c.args.block.now time due) (fold (enter_queue chain c.args.block.now time due) (waiting time due) p.0) p.1.0) p.1.1.1))
    (λ i. (c.as_slice-joiners.ensures i, (c.as_slice-actives.ensures i, (c.as_slice.ensures i, c.as_slice-2.ensures i))))
    (last chain c.args.block.now _ _ written (c.in_ok-leave_all.ensures.stands chain c.enter_all-2.new.queue _ _ (c.in_ok-enter_all-2.ensures.stands chain _ _ facts written (c.in_ok-enter_all.ensures.stands chain rows waiting facts written stands)))))
    c.revoke_all.ensures.stands
