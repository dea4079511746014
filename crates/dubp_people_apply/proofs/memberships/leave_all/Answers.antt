use Rattle.std.proofs.Common.{◌∙◌, arith, fold}
use Rattle.dubp_steps.specs.AfterLines.{leave_line}
use Rattle.dubp_mindex.specs.contracts.member.MIndexTablesMemberRows.TheImpl as mindex
use Rattle.dubp_expiry.specs.contracts.queue.QueueTablesEntries.TheImpl as queue_tables
use Rattle.dubp_people_apply.specs.Lines.{Stands}
use Rattle.dubp_people_apply.proofs.MemberLines.{one_row_more as one_line_more, all_lines}
use Rattle.dubp_people_apply.proofs.memberships.leave_all.Goals as goal

pub loop-line-preserved : goal.loop-line-preserved
loop-line-preserved g c =
    record {
      stands = λ chain queue rows waiting stands.
          one_line_more chain c.args.block.now (leave_line c.args.block.now) rows waiting c.args.lines.now c.loop-line.line-index c.line-item.result c.loop-line-test.true c.line-item.is
          (c.in_ok-leave.ensures.stands chain queue _ _ (c.loop-line.invariant.stands chain queue rows waiting stands));
      memberships_others = c.in_ok-leave.ensures.memberships_others ∙ c.loop-line.invariant.memberships_others;
      count = omega (arith, c.in_ok-leave.ensures.count, c.loop-line.invariant.count);
      steps = omega (arith, c.in_ok-leave.ensures.steps, c.loop-line.invariant.steps);
    }

pub returns-clause-stands : goal.returns-clause-stands
returns-clause-stands g c =
    λ chain queue rows waiting stands.
    all_lines (λ lines. Stands chain c.args.block.now ((mindex.ghosts).at c.loop-line.memberships) ((queue_tables.ghosts).at queue) (λ k. fold (leave_line c.args.block.now k) (rows k) lines) waiting)
    c.args.lines.now c.loop-line.line-index c.loop-line.auto.line-index-end c.loop-line-test.false (c.loop-line.invariant.stands chain queue rows waiting stands)
