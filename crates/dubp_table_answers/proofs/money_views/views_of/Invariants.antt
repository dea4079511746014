use Rattle.std.proofs.Common.{◌≡◌, map, take}
use Rattle.dubp_table_answers.specs.MoneyViews.{row_view}
use Rattle.dubp_table_answers.proofs.money_views.views_of.Given as goal

abbrev pub invariant-loop-row : goal.invariant-loop-row
invariant-loop-row l = l.found.items ≡ map row_view (take l.row-index l.rows)
