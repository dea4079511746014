use Rattle.std.proofs.Common.{◌≡◌, ◌+◌, ◌≤◌, take, fold}
use Rattle.dubp_mindex.specs.contracts.member.MIndexTablesMemberRows.TheImpl as mindex
use Rattle.dubp_chain.specs.Chains.{Chain}
use Rattle.dubp_expiry.specs.declared.queue.Queue.{Queue as QueueValue}
use Rattle.dubp_expiry.specs.contracts.queue.QueueTablesEntries.TheImpl as queue_tables
use Rattle.dubp_steps.specs.AfterLines.{leave_line}
use Rattle.dubp_people_apply.specs.Held.{Memberships, Waiting}
use Rattle.dubp_people_apply.specs.Lines.{Stands}
use Rattle.dubp_people_apply.proofs.memberships.leave_all.Given as goal

abbrev pub invariant-loop-line : goal.invariant-loop-line
invariant-loop-line g l = record {
  stands : (c : Chain) (queue : QueueValue) (rows : Memberships) (waiting : Waiting) → Stands c l.block ((mindex.ghosts).at l.initial.memberships) ((queue_tables.ghosts).at queue) rows waiting
      → Stands c l.block ((mindex.ghosts).at l.memberships) ((queue_tables.ghosts).at queue) (λ k. fold (leave_line l.block k) (rows k) (take l.line-index l.lines)) waiting;
  memberships_others : (mindex.ghosts).others l.memberships ≡ (mindex.ghosts).others l.initial.memberships;
  count : (mindex.ghosts).count l.memberships + l.initial.steps ≤ (mindex.ghosts).count l.initial.memberships + l.steps;
  steps : l.steps ≤ l.initial.steps + l.line-index;
}
