use Rattle.std.proofs.Common.{subst}
use Rattle.std.specs.Prelude.{IfSome, IfNone}
use Rattle.std.specs.BTreeMap.Range.{IsFromStart}
use Rattle.dubp_journal.specs.MovingTable.{MovingTable, IsLeast, HasNone}
use Rattle.dubp_journal.specs.Slots.{IsFirstHeld, HasNoneHeld}
use Rattle.dubp_journal.proofs.Walks.{least_of_table, none_of_table}
use Rattle.dubp_journal.proofs.table.UndoTable.first_from.Goals as goal

pub returns-clause-found : goal.returns-clause-found
returns-clause-found g c =
    let t = c.self.inside in
    subst (λ (v : MovingTable g.row.K.Denot g.row.V.Denot). IfSome c.next_held.result (IsLeast g.F.Finder.cmp v.now (IsFromStart g.F.Finder.cmp c.args.first))) c.self.view_is
    (least_of_table c.self.invariant.finds t.slots c.args.first c.next_held.result
    (subst (λ slots. IfSome c.next_held.result (IsFirstHeld g.F.Finder.cmp (g.F.Finder.slot_of t.finder) slots c.args.first)) c.values.ensures c.next_held.ensures.found))

pub returns-clause-none : goal.returns-clause-none
returns-clause-none g c =
    let t = c.self.inside in
    subst (λ (v : MovingTable g.row.K.Denot g.row.V.Denot). IfNone c.next_held.result (HasNone g.F.Finder.cmp v.now (IsFromStart g.F.Finder.cmp c.args.first))) c.self.view_is
    (none_of_table c.self.invariant.finds t.slots c.args.first c.next_held.result
    (subst (λ slots. IfNone c.next_held.result (HasNoneHeld g.F.Finder.cmp (g.F.Finder.slot_of t.finder) slots c.args.first)) c.values.ensures c.next_held.ensures.none))
