use Rattle.std.proofs.Common.{◌≡◌, ◌+◌, ◌*◌, ◌≤◌, take, fold}
use Rattle.dubp_mindex.specs.contracts.member.MIndexTablesMemberRows.TheImpl as mindex
use Rattle.dubp_expiry.specs.contracts.queue.QueueTablesEntries.TheImpl as queue_tables
use Rattle.dubp_chain.specs.Chains.{Chain}
use Rattle.dubp_left.specs.Next.{IsWritten}
use Rattle.dubp_steps.specs.AfterLines.{enter_line, enter_queue}
use Rattle.dubp_left.specs.OfFacts.facts_tables_block as facts
use Rattle.dubp_people_apply.specs.Held.{Memberships, Waiting}
use Rattle.dubp_people_apply.specs.Lines.{Stands}
use Rattle.dubp_people_apply.proofs.memberships.enter_all.Given as goal

abbrev pub invariant-loop-line : goal.invariant-loop-line
invariant-loop-line g l = record {
  stands : (c : Chain) (rows : Memberships) (waiting : Waiting) → (facts.ghosts).at l.facts c → IsWritten c l.block l.next → Stands c l.block ((mindex.ghosts).at l.initial.memberships) ((queue_tables.ghosts).at l.initial.queue) rows waiting
      → Stands c l.block ((mindex.ghosts).at l.memberships) ((queue_tables.ghosts).at l.queue) (λ k. fold (enter_line c l.block k) (rows k) (take l.line-index l.lines)) (λ time due. fold (enter_queue c l.block time due) (waiting time due) (take l.line-index l.lines));
  memberships_others : (mindex.ghosts).others l.memberships ≡ (mindex.ghosts).others l.initial.memberships;
  queue_others : (queue_tables.ghosts).others l.queue ≡ (queue_tables.ghosts).others l.initial.queue;
  count : (mindex.ghosts).count l.memberships + (queue_tables.ghosts).count l.queue + l.initial.steps ≤ (mindex.ghosts).count l.initial.memberships + (queue_tables.ghosts).count l.initial.queue + l.steps;
  steps : l.steps ≤ l.initial.steps + 5 * l.line-index;
}
