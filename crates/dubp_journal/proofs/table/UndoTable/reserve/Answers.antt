use Rattle.std.proofs.Common.{◌≤◌, ◌+◌, length, ap, arith}
use Rattle.std.specs.VecDeque.{deque_capacity}
use Rattle.dubp_journal.specs.Journal.{last_changes}
use Rattle.dubp_journal.proofs.Journals.{length-states, wider_kept, spared_kept}
use Rattle.dubp_journal.proofs.Results.{on_ok, on_err_any}
use Rattle.dubp_journal.proofs.table.UndoTable.reserve.Goals as goal

pub invariant_of-self : goal.invariant_of-self
invariant_of-self g c = rw c.reserve_exact.ensures.items (wider_kept c.self.invariant _ _ _ _ (omega arith) (omega arith) c.reserve_exact.ensures.capacity (omega arith))

pub invariant_of-self-in_err-map_err-2 : goal.invariant_of-self-in_err-map_err-2
invariant_of-self-in_err-map_err-2 g c =
    rw (c.reserve_exact.ensures.items, c.reserve_exact-2.ensures.items) (wider_kept c.self.invariant _ _ _ _ (omega arith) (omega arith) c.reserve_exact.ensures.capacity c.reserve_exact-2.ensures.capacity)

pub changes_since-changes-requires-clause-few : goal.changes_since-changes-requires-clause-few
changes_since-changes-requires-clause-few g c =
    let t = c.self.inside in
    omega (arith, length-states t.keys.items t.slots t.journal.items t.marks.items, ap (λ v. length v.past) c.self.view_is, c.requires)

pub invariant_of-self-2 : goal.invariant_of-self-2
invariant_of-self-2 g c =
    let t = c.self.inside in
    let first = on_ok c.reserve_exact.result c.map_err.ensures.variant c.in_ok-map_err.was c.reserve_exact.ensures.ok in
    let second = on_ok c.reserve_exact-2.result c.map_err-2.ensures.variant c.in_ok-map_err-2.was c.reserve_exact-2.ensures.ok in
    let few : c.args.k ≤ length t.marks.items = omega (arith, length-states t.keys.items t.slots t.journal.items t.marks.items, ap (λ v. length v.past) c.self.view_is, c.requires) in
    let room : length t.redo.items + last_changes t.marks.items c.args.k ≤ deque_capacity c.reserve_exact.new.self = omega (arith, first, c.reserve_exact.ensures.len, c.changes_since-changes.ensures, t.redo.ok.0) in
    let marks_room : length t.redo_marks.items + c.args.k ≤ deque_capacity c.reserve_exact-2.new.self = omega (arith, second, c.reserve_exact-2.ensures.len, t.redo_marks.ok.0) in
    rw (c.reserve_exact.ensures.items, c.reserve_exact-2.ensures.items) (spared_kept c.self.invariant c.args.k _ _ few room marks_room)

pub returns-in_err-map_err-2-clause-refused : goal.returns-in_err-map_err-2-clause-refused
returns-in_err-map_err-2-clause-refused g c =
    on_err_any c.from_residual-in_err-map_err-2.result (record {
      past = ap (λ v. v.past) c.self.view_is;
      first = ap (λ v. v.first) c.self.view_is;
      now = ap (λ v. v.now) c.self.view_is;
      ahead = rw (c.reserve_exact.ensures.items, c.reserve_exact-2.ensures.items) (ap (λ v. v.ahead) c.self.view_is);
      root = ap (λ v. v.root) c.self.view_is;
      placed = ap (λ v. v.placed) c.self.view_is;
    })
