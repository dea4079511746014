use Rattle.std.proofs.Common.{subst, fold}
use Rattle.std.proofs.lemmas.Result.{on_ok_weaker}
use Rattle.dubp_cindex.specs.contracts.index.CIndexTablesCertRows.TheImpl as cindex
use Rattle.dubp_expiry.specs.contracts.queue.QueueTablesEntries.TheImpl as queue_tables
use Rattle.dubp_steps.specs.AfterLines.{certify_line, certify_queue}
use Rattle.dubp_people_apply.specs.Lines.{StandsCertified}
use Rattle.dubp_people_apply.proofs.certifications.write_certifications.Goals as goal

pub returns-clause-stands : goal.returns-clause-stands
returns-clause-stands g c =
    on_ok_weaker c.certify_all.result (λ all chain rows waiting facts written stands.
    subst (λ lines. StandsCertified chain c.args.block.now ((cindex.ghosts).at c.certify_all.new.certifications) ((queue_tables.ghosts).at c.certify_all.new.queue) (λ x y. fold (certify_line chain c.args.block.now x y) (rows x y) lines) (λ time due. fold (certify_queue chain c.args.block.now time due) (waiting time due) lines))
    c.as_slice-lines.ensures (all chain rows waiting facts written stands)) c.certify_all.ensures.stands
