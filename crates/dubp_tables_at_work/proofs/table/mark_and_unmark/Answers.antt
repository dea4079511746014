use Rattle.std.proofs.Common.{◌∙◌, ap}
use Rattle.dubp_undo.specs.MovingTable.{last_count}
use Rattle.dubp_undo.proofs.Past.{last_count-push}
use Rattle.dubp_tables_at_work.proofs.table.mark_and_unmark.Goals as goal

-- no key was set behind the mark
pub unmark-requires-clause-fresh : goal.unmark-requires-clause-fresh
unmark-requires-clause-fresh c = ap last_count c.in_ok-mark.ensures.past ∙ last_count-push c.args.table.now.past c.args.table.now.now 0
