use Rattle.std.proofs.Common.{◌≡◌, ◌+◌, ◌≤◌, ◌∷◌}
use Rattle.dubp_block.specs.declared.block.Block.{Block}
use Rattle.dubp_chain.specs.Chains.{Chain}
use Rattle.dubp_validity.specs.Rules.{IsSound}
use Rattle.dubp_mindex.specs.contracts.member.MIndexTablesMemberRows.TheImpl as mindex
use Rattle.dubp_cindex.specs.contracts.index.CIndexTablesCertRows.TheImpl as cindex
use Rattle.dubp_expiry.specs.contracts.queue.QueueTablesEntries.TheImpl as queue_tables
use Rattle.dubp_steps.specs.AfterLines.{now_of}
use Rattle.dubp_steps.specs.Loops.{Standing, IsTaking}
use Rattle.dubp_people_apply.specs.Counting.{IsCounted}
use Rattle.dubp_people_apply.specs.Taking.{IsSince, StandAs, IsOnTheWay}
use Rattle.dubp_people_apply.proofs.taking.take_due.Given as goal

abbrev pub invariant-taking : goal.invariant-taking
invariant-taking g l = record {
  way : (c : Chain) (b : Block) (s : Standing) → IsSound (b ∷ c) → IsSince c l.fn.since → l.next.time ≡ now_of c b → IsTaking c b s
      → StandAs ((mindex.ghosts).at l.initial.memberships) ((cindex.ghosts).at l.initial.certifications) ((queue_tables.ghosts).at l.initial.queue) l.initial.ended s
      → IsOnTheWay c b ((mindex.ghosts).at l.memberships) ((cindex.ghosts).at l.certifications) ((queue_tables.ghosts).at l.queue) l.ended l.behind;
  counted : (c : Chain) (b : Block) (s : Standing) → IsSound (b ∷ c) → IsSince c l.fn.since → l.next.time ≡ now_of c b → IsTaking c b s
      → StandAs ((mindex.ghosts).at l.initial.memberships) ((cindex.ghosts).at l.initial.certifications) ((queue_tables.ghosts).at l.initial.queue) l.initial.ended s
      → IsCounted l.initial.ended l.ended l.initial.steps l.steps;
  memberships_others : (mindex.ghosts).others l.memberships ≡ (mindex.ghosts).others l.initial.memberships;
  certifications_others : (cindex.ghosts).others l.certifications ≡ (cindex.ghosts).others l.initial.certifications;
  queue_others : (queue_tables.ghosts).others l.queue ≡ (queue_tables.ghosts).others l.initial.queue;
  count : (mindex.ghosts).count l.memberships + (cindex.ghosts).count l.certifications + (queue_tables.ghosts).count l.queue + l.initial.steps ≤ (mindex.ghosts).count l.initial.memberships + (cindex.ghosts).count l.initial.certifications + (queue_tables.ghosts).count l.initial.queue + l.steps;
}
