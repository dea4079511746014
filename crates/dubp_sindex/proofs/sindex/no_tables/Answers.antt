use Rattle.std.proofs.Common.{◌∙◌, refl, ap}
use Rattle.dubp_sindex.proofs.sindex.no_tables.Goals as goal

pub returns-clause-at : goal.returns-clause-at
returns-clause-at c = (
  λ k. rw (ap (λ t. t.table.now) c.new-tables.ensures.first ∙ c.over-names.ensures.now) refl,
  λ k. rw (ap (λ t. t.table.now) c.new-tables.ensures.second ∙ c.over-rows.ensures.now) refl,
  λ k. rw (ap (λ t. t.table.now) c.new-tables.ensures.third ∙ c.over-balances.ensures.now) refl,
)
