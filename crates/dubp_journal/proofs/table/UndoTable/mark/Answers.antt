use Rattle.std.proofs.Common.{◌≤◌, ◌+◌, length, arith}
use Rattle.std.specs.VecDeque.{deque_capacity}
use Rattle.dubp_journal.proofs.Journals.{wider_kept, mark_kept, mark_states}
use Rattle.dubp_journal.proofs.Results.{on_ok}
use Rattle.dubp_journal.proofs.table.UndoTable.mark.Goals as goal

pub invariant_of-self : goal.invariant_of-self
invariant_of-self g c = rw c.reserve.ensures.items (wider_kept c.self.invariant _ _ _ _ (omega arith) c.reserve.ensures.capacity (omega arith) (omega arith))

pub invariant_of-self-2 : goal.invariant_of-self-2
invariant_of-self-2 g c =
    let t = c.self.inside in
    let room = on_ok c.reserve.result c.map_err.ensures.variant c.in_ok-map_err.was c.reserve.ensures.ok in
    let fits : length t.marks.items + (length t.redo_marks.items + 1) ≤ deque_capacity c.push_back_reserved.new.self = omega (arith, t.marks.ok.0, t.redo_marks.ok.0, room, c.reserve.ensures.len, c.len-extra.ensures, c.push_back_reserved.ensures.capacity) in
    rw (c.push_back_reserved.ensures.items, c.reserve.ensures.items) (mark_kept c.self.invariant _ fits)

pub returns-clause-past : goal.returns-clause-past
returns-clause-past g c =
    rw (c.push_back_reserved.ensures.items, c.reserve.ensures.items, ← c.self.view_is) (mark_states c.self.invariant)
