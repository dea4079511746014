use Rattle.std.proofs.Common.{ap, ◌∙◌}
use Rattle.dubp_iindex.specs.Rows.{texts, one, row_at, key_at, member_at, counts_at}
use Rattle.dubp_iindex.proofs.Empty.{empty_at, no_row, no_key, no_member, no_counts_at}
use Rattle.dubp_iindex.proofs.index.IIndex.with_secret.Goals as goal

pub returns-clause-at : goal.returns-clause-at
returns-clause-at c = (
  empty_at texts row_at c.new-tables.result.first.table.now (ap (λ t. t.table.now) c.new-tables.ensures.first ∙ c.new-rows.ensures.now) no_row,
  (
    empty_at texts key_at c.new-tables.result.second.first.table.now (ap (λ t. t.first.table.now) c.new-tables.ensures.second ∙ ap (λ t. t.table.now) c.new-derived.ensures.first ∙ c.over-uids.ensures.now) no_key,
    empty_at texts member_at c.new-tables.result.second.second.table.now (ap (λ t. t.second.table.now) c.new-tables.ensures.second ∙ ap (λ t. t.table.now) c.new-derived.ensures.second ∙ c.new-members.ensures.now) no_member,
    empty_at one counts_at c.new-tables.result.second.third.table.now (ap (λ t. t.third.table.now) c.new-tables.ensures.second ∙ ap (λ t. t.table.now) c.new-derived.ensures.third ∙ c.new-counts.ensures.now) no_counts_at,
  ),
)
