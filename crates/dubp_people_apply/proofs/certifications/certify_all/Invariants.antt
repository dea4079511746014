use Rattle.std.proofs.Common.{◌≡◌, ◌+◌, ◌*◌, ◌≤◌, take, fold}
use Rattle.dubp_cindex.specs.contracts.index.CIndexTablesCertRows.TheImpl as cindex
use Rattle.dubp_expiry.specs.contracts.queue.QueueTablesEntries.TheImpl as queue_tables
use Rattle.dubp_chain.specs.Chains.{Chain}
use Rattle.dubp_left.specs.Next.{IsWritten}
use Rattle.dubp_steps.specs.AfterLines.{certify_line, certify_queue}
use Rattle.dubp_left.specs.OfFacts.facts_tables_block as facts
use Rattle.dubp_people_apply.specs.Held.{Certifications, Waiting}
use Rattle.dubp_people_apply.specs.Lines.{StandsCertified}
use Rattle.dubp_people_apply.proofs.certifications.certify_all.Given as goal

abbrev pub invariant-loop-line : goal.invariant-loop-line
invariant-loop-line g l = record {
  stands : (c : Chain) (rows : Certifications) (waiting : Waiting) → (facts.ghosts).at l.facts c → IsWritten c l.block l.next → StandsCertified c l.block ((cindex.ghosts).at l.initial.certifications) ((queue_tables.ghosts).at l.initial.queue) rows waiting
      → StandsCertified c l.block ((cindex.ghosts).at l.certifications) ((queue_tables.ghosts).at l.queue) (λ x y. fold (certify_line c l.block x y) (rows x y) (take l.line-index l.lines)) (λ time due. fold (certify_queue c l.block time due) (waiting time due) (take l.line-index l.lines));
  certifications_others : (cindex.ghosts).others l.certifications ≡ (cindex.ghosts).others l.initial.certifications;
  queue_others : (queue_tables.ghosts).others l.queue ≡ (queue_tables.ghosts).others l.initial.queue;
  count : (cindex.ghosts).count l.certifications + (queue_tables.ghosts).count l.queue + l.initial.steps ≤ (cindex.ghosts).count l.initial.certifications + (queue_tables.ghosts).count l.initial.queue + l.steps;
  steps : l.steps ≤ l.initial.steps + 7 * l.line-index;
}
