use Rattle.std.proofs.Common.{◌∙◌, arith, fold}
use Rattle.dubp_steps.specs.AfterLines.{enter_line, enter_queue}
use Rattle.dubp_mindex.specs.contracts.member.MIndexTablesMemberRows.TheImpl as mindex
use Rattle.dubp_expiry.specs.contracts.queue.QueueTablesEntries.TheImpl as queue_tables
use Rattle.dubp_people_apply.specs.Lines.{Stands}
use Rattle.dubp_people_apply.proofs.MemberLines.{one_line_more, all_lines}
use Rattle.dubp_people_apply.proofs.memberships.enter_all.Goals as goal

pub loop-line-preserved : goal.loop-line-preserved
loop-line-preserved g c =
    record {
      stands = λ chain rows waiting facts written stands.
          one_line_more chain c.args.block.now (enter_line chain c.args.block.now) (enter_queue chain c.args.block.now) rows waiting c.args.lines.now c.loop-line.line-index c.line-item.result c.loop-line-test.true c.line-item.is
          (c.in_ok-enter.ensures.stands chain _ _ facts written (c.loop-line.invariant.stands chain rows waiting facts written stands));
      memberships_others = c.in_ok-enter.ensures.memberships_others ∙ c.loop-line.invariant.memberships_others;
      queue_others = c.in_ok-enter.ensures.queue_others ∙ c.loop-line.invariant.queue_others;
      count = omega (arith, c.in_ok-enter.ensures.count, c.loop-line.invariant.count);
      steps = omega (arith, c.in_ok-enter.ensures.steps, c.loop-line.invariant.steps);
    }

pub returns-clause-stands : goal.returns-clause-stands
returns-clause-stands g c =
    λ chain rows waiting facts written stands.
    all_lines (λ lines. Stands chain c.args.block.now ((mindex.ghosts).at c.loop-line.memberships) ((queue_tables.ghosts).at c.loop-line.queue) (λ k. fold (enter_line chain c.args.block.now k) (rows k) lines) (λ time due. fold (enter_queue chain c.args.block.now time due) (waiting time due) lines))
    c.args.lines.now c.loop-line.line-index c.loop-line.auto.line-index-end c.loop-line-test.false (c.loop-line.invariant.stands chain rows waiting facts written stands)
