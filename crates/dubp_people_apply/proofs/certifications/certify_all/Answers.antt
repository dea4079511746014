use Rattle.std.proofs.Common.{◌∙◌, arith, fold}
use Rattle.dubp_steps.specs.AfterLines.{certify_line, certify_queue}
use Rattle.dubp_cindex.specs.contracts.index.CIndexTablesCertRows.TheImpl as cindex
use Rattle.dubp_expiry.specs.contracts.queue.QueueTablesEntries.TheImpl as queue_tables
use Rattle.dubp_people_apply.specs.Lines.{StandsCertified}
use Rattle.dubp_people_apply.proofs.CertLines.{one_pair_more}
use Rattle.dubp_people_apply.proofs.MemberLines.{all_lines}
use Rattle.dubp_people_apply.proofs.certifications.certify_all.Goals as goal

pub loop-line-preserved : goal.loop-line-preserved
loop-line-preserved g c =
    record {
      stands = λ chain rows waiting facts written stands.
          one_pair_more chain c.args.block.now rows waiting c.args.lines.now c.loop-line.line-index c.line-item.result c.loop-line-test.true c.line-item.is
          (c.in_ok-certify.ensures.stands chain _ _ facts written (c.loop-line.invariant.stands chain rows waiting facts written stands));
      certifications_others = c.in_ok-certify.ensures.certifications_others ∙ c.loop-line.invariant.certifications_others;
      queue_others = c.in_ok-certify.ensures.queue_others ∙ c.loop-line.invariant.queue_others;
      count = omega (arith, c.in_ok-certify.ensures.count, c.loop-line.invariant.count);
      steps = omega (arith, c.in_ok-certify.ensures.steps, c.loop-line.invariant.steps);
    }

pub returns-clause-stands : goal.returns-clause-stands
returns-clause-stands g c =
    λ chain rows waiting facts written stands.
    all_lines (λ lines. StandsCertified chain c.args.block.now ((cindex.ghosts).at c.loop-line.certifications) ((queue_tables.ghosts).at c.loop-line.queue) (λ x y. fold (certify_line chain c.args.block.now x y) (rows x y) lines) (λ time due. fold (certify_queue chain c.args.block.now time due) (waiting time due) lines))
    c.args.lines.now c.loop-line.line-index c.loop-line.auto.line-index-end c.loop-line-test.false (c.loop-line.invariant.stands chain rows waiting facts written stands)
