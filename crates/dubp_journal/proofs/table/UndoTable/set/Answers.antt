use Rattle.std.proofs.Common.{◌≡◌, ◌≤◌, ◌+◌, ◌∙◌, ap, subst, length, get_or, set, reverse, None, sym, arith}
use Rattle.std.specs.VecDeque.{deque_capacity}
use Rattle.dubp_journal.specs.MovingTable.{MovingTable, IsPlaced, Places, one_more, Puts}
use Rattle.dubp_journal.specs.Slots.{live, keys_in}
use Rattle.dubp_journal.proofs.Journals.{wider_kept}
use Rattle.dubp_journal.proofs.Live.{is_some-slot}
use Rattle.dubp_journal.proofs.Placing.{grown_kept, grown_live, grown_states, grown_ahead, widened_keys}
use Rattle.dubp_journal.proofs.Results.{on_err_any}
use Rattle.dubp_journal.proofs.Setting.{IsSet, is_set, set_within, length-noted-le}
use Rattle.dubp_journal.proofs.Forgetting.{counted_few}
use Rattle.dubp_journal.specs.Journal.{Follows, noted}
use Rattle.dubp_journal.proofs.table.UndoTable.set.Given.{Over}
use Rattle.dubp_journal.proofs.table.UndoTable.set.Goals as goal
use Rattle.dubp_journal.proofs.table.UndoTable.set.Goals.{After-tick}

pub invariant_of-self : goal.invariant_of-self
invariant_of-self g c = rw c.make_room.ensures.items (wider_kept c.self.invariant _ _ _ _ c.make_room.ensures.capacity (omega arith) (omega arith) (omega arith))

pub invariant_of-self-in_err-slot : goal.invariant_of-self-in_err-slot
invariant_of-self-in_err-slot g c =
    rw c.make_room.ensures.items (wider_kept (grown_kept (λ x. ⊥) c.in_err-slot.ensures.refused c.self.invariant) _ _ _ _ c.make_room.ensures.capacity (omega arith) (omega arith) (omega arith))

pub returns-in_err-slot-clause-succeeds : goal.returns-in_err-slot-clause-succeeds
returns-in_err-slot-clause-succeeds g c = λ placed room.
    let here = subst (λ (v : MovingTable g.row.K.Denot g.row.V.Denot). IsPlaced g.F.Finder.cmp c.args.k v.placed) (sym c.self.view_is) placed in
    let ok = c.in_err-slot.ensures.succeeds (is_some-slot c.self.invariant.finds c.args.k ∙ here) in
    cc

pub get-requires : goal.get-requires
get-requires g c = set_within c.in_ok-slot.ensures.grown

pub set-requires : goal.set-requires
set-requires g c = set_within c.in_ok-slot.ensures.grown

pub returns-in_err-slot-clause-ahead : goal.returns-in_err-slot-clause-ahead
returns-in_err-slot-clause-ahead g c =
    rw (← c.self.view_is) (ap reverse (grown_ahead (λ x. ⊥) c.in_err-slot.ensures.refused c.self.invariant))

pub returns-in_err-slot-clause-refused : goal.returns-in_err-slot-clause-refused
returns-in_err-slot-clause-refused g c =
    let refused = c.in_err-slot.ensures.refused in
    on_err_any c.from_residual-in_err-slot.result (record {
      past = rw c.make_room.ensures.items (grown_states (λ x. ⊥) refused c.self.invariant ∙ ap (λ v. v.past) c.self.view_is);
      first = ap (λ v. v.first) c.self.view_is;
      now = grown_live (λ x. ⊥) refused c.self.invariant ∙ ap (λ v. v.now) c.self.view_is;
      ahead = ap reverse (grown_ahead (λ x. ⊥) refused c.self.invariant) ∙ ap (λ v. v.ahead) c.self.view_is;
      root = ap (λ v. v.root) c.self.view_is;
      placed = widened_keys refused ∙ ap (λ v. v.placed) c.self.view_is;
    })

pub note-requires-clause-within : goal.note-requires-clause-within
note-requires-clause-within g c =
    let grown = c.in_ok-slot.ensures.grown in
    omega (arith, set_within grown, grown.wider.uses_each)

pub note-requires-clause-fits : goal.note-requires-clause-fits
note-requires-clause-fits g c =
    let t = c.self.inside in
    let grown = c.in_ok-slot.ensures.grown in
    let i = c.in_ok-slot.slot in
    omega (arith, c.in_ok-make_room.ensures.ok, ap length c.make_room.ensures.items, c.len.ensures, t.redo.ok.0, grown.wider.same_uses i, counted_few c.self.invariant i)

-- all that the goals at the return need
done : (g : Over) (c : After-tick g) → let t = c.self.inside in IsSet g.F.Finder.cmp (g.F.Finder.slot_of c.place.new.finder) t.keys.items c.place.new.keys.items c.note.new.uses.items t.slots c.place.new.slots t.root.value (live t.rooted_keys.value.items t.rooted.value) c.args.k c.in_ok-slot.slot c.args.v t.journal.items t.redo.items t.marks.items t.redo_marks.items (deque_capacity c.make_room.new.journal) (deque_capacity t.marks) (deque_capacity t.redo) (deque_capacity t.redo_marks)
done g c =
    let t = c.self.inside in
    let i = c.in_ok-slot.slot in
    let more = c.place.new.slots in
    let room : length t.journal.items + length t.redo.items + 1 ≤ deque_capacity c.make_room.new.journal = omega (arith, c.in_ok-make_room.ensures.ok, ap length c.make_room.ensures.items, c.len.ensures, t.redo.ok.0) in
    let was : c.get.result ≡ get_or more i None = c.get.ensures in
    let f : Follows c.place.new.uses.items c.note.new.uses.items t.journal.items (noted t.marks.items t.journal.items (i, get_or more i None)) = rw (← was, ← c.make_room.ensures.items, ← c.note.ensures.journal) c.note.ensures.uses in
    is_set g.met.F.Finder.total c.self.invariant c.in_ok-slot.ensures.grown c.args.v (deque_capacity c.make_room.new.journal) f room

pub invariant_of-self-2 : goal.invariant_of-self-2
invariant_of-self-2 g c =
    rw (c.note.ensures.journal, c.note.ensures.marks, c.note.ensures.capacity, c.note.ensures.marks_capacity, c.make_room.ensures.items, c.get.ensures, c.set.ensures) (done g c).kept

pub returns-clause-now : goal.returns-clause-now
returns-clause-now g c = rw c.set.ensures (subst (λ (v : MovingTable g.row.K.Denot g.row.V.Denot). Puts g.F.Finder.cmp v.now (live c.place.new.keys.items (set c.place.new.slots c.in_ok-slot.slot c.args.v)) c.args.k c.args.v) c.self.view_is (done g c).now)

pub returns-clause-past : goal.returns-clause-past
returns-clause-past g c =
    rw (c.note.ensures.journal, c.note.ensures.marks, c.make_room.ensures.items, c.get.ensures, c.set.ensures) ((done g c).past ∙ ap (λ v. one_more v.past) c.self.view_is)

pub returns-clause-placed : goal.returns-clause-placed
returns-clause-placed g c = subst (λ (v : MovingTable g.row.K.Denot g.row.V.Denot). Places g.F.Finder.cmp v.placed (keys_in c.place.new.keys.items) c.args.k) c.self.view_is (done g c).placed

pub returns-clause-ahead : goal.returns-clause-ahead
returns-clause-ahead g c = (done g c).ahead ∙ ap (λ v. v.ahead) c.self.view_is

pub returns-clause-room : goal.returns-clause-room
returns-clause-room g c =
    let t = c.self.inside in
    omega (arith, ap (λ v. v.room) c.self.view_is, c.make_room.ensures.capacity, c.note.ensures.capacity, ap length c.note.ensures.journal, ap length c.make_room.ensures.items, length-noted-le t.marks.items c.make_room.new.journal.items (c.in_ok-slot.slot, c.get.result))
