use Rattle.std.proofs.Common.{[], refl, ap, sym, subst, ◌∙◌}
use Rattle.dubp_iindex.specs.Rows.{texts}
use Rattle.dubp_iindex.proofs.Empty.{empty_at}
use Rattle.dubp_expiry.specs.contracts.queue.QueueTablesEntries.TheImpl as queue
use Rattle.dubp_left.specs.OfFacts.facts_tables_block as facts
use Rattle.dubp_left.specs.Left.{kicked_at}
use Rattle.dubp_registry.proofs.others.Others.new.Goals as goal

pub returns-clause-at : goal.returns-clause-at
returns-clause-at c = (
  subst (λ t. (queue.ghosts).at t []) (sym (ap (λ t. t.tables) c.new-5.ensures.first ∙ c.new-2.ensures.tables)) c.new.ensures.at,
  empty_at texts kicked_at c.new-5.result.second.table.now (ap (λ t. t.table.now) c.new-5.ensures.second ∙ c.new-3.ensures.now) (λ k. refl),
  subst (λ t. (facts.ghosts).at t []) (sym c.new-5.ensures.third) c.new-4.ensures.at,
)
