use Rattle.std.proofs.Common.{◌≡◌, ◌∙◌, ap, subst, sym, reverse, arith}
use Rattle.dubp_journal.specs.MovingTable.{MovingTable, IsPlaced, Places}
use Rattle.dubp_journal.specs.Slots.{keys_in}
use Rattle.dubp_journal.proofs.Live.{is_some-slot}
use Rattle.dubp_journal.proofs.Journals.{wider_kept}
use Rattle.dubp_journal.proofs.Placing.{grown_kept, grown_live, grown_states, grown_ahead, grown_places, widened_keys}
use Rattle.dubp_journal.proofs.Results.{on_err_any}
use Rattle.dubp_journal.proofs.table.UndoTable.ready.Goals as goal

pub invariant_of-self-in_err-slot : goal.invariant_of-self-in_err-slot
invariant_of-self-in_err-slot g c =
    rw c.make_room.ensures.items (wider_kept (grown_kept (λ x. ⊥) c.in_err-slot.ensures.refused c.self.invariant) _ _ _ _ c.make_room.ensures.capacity (omega arith) (omega arith) (omega arith))

pub returns-in_err-slot-clause-succeeds : goal.returns-in_err-slot-clause-succeeds
returns-in_err-slot-clause-succeeds g c = λ placed room.
    let here = subst (λ (v : MovingTable g.row.K.Denot g.row.V.Denot). IsPlaced g.F.Finder.cmp c.args.k v.placed) (sym c.self.view_is) placed in
    let ok = c.in_err-slot.ensures.succeeds (is_some-slot c.self.invariant.finds c.args.k ∙ here) in
    cc

pub invariant_of-self : goal.invariant_of-self
invariant_of-self g c = rw c.make_room.ensures.items (wider_kept c.self.invariant _ _ _ _ c.make_room.ensures.capacity (omega arith) (omega arith) (omega arith))

pub invariant_of-self-2 : goal.invariant_of-self-2
invariant_of-self-2 g c =
    rw c.make_room.ensures.items (wider_kept (grown_kept (λ x. x ≡ c.in_ok-slot.slot) c.in_ok-slot.ensures.grown.wider c.self.invariant) _ _ _ _ c.make_room.ensures.capacity (omega arith) (omega arith) (omega arith))

pub returns-clause-placed : goal.returns-clause-placed
returns-clause-placed g c = subst (λ (v : MovingTable g.row.K.Denot g.row.V.Denot). Places g.F.Finder.cmp v.placed (keys_in c.place.new.keys.items) c.args.k) c.self.view_is (grown_places c.self.invariant.finds c.in_ok-slot.ensures.grown)

pub returns-clause-past : goal.returns-clause-past
returns-clause-past g c =
    let t = c.self.inside in
    rw (c.make_room.ensures.items, ← c.self.view_is) (grown_states (λ x. x ≡ c.in_ok-slot.slot) c.in_ok-slot.ensures.grown.wider c.self.invariant)

pub returns-clause-now : goal.returns-clause-now
returns-clause-now g c = rw (← c.self.view_is) (grown_live (λ x. x ≡ c.in_ok-slot.slot) c.in_ok-slot.ensures.grown.wider c.self.invariant)

pub returns-clause-ahead : goal.returns-clause-ahead
returns-clause-ahead g c =
    let t = c.self.inside in
    rw (← c.self.view_is) (ap reverse (grown_ahead (λ x. x ≡ c.in_ok-slot.slot) c.in_ok-slot.ensures.grown.wider c.self.invariant))

pub returns-in_err-slot-clause-past : goal.returns-in_err-slot-clause-past
returns-in_err-slot-clause-past g c =
    rw (c.make_room.ensures.items, ← c.self.view_is) (grown_states (λ x. ⊥) c.in_err-slot.ensures.refused c.self.invariant)

pub returns-in_err-slot-clause-now : goal.returns-in_err-slot-clause-now
returns-in_err-slot-clause-now g c = rw (← c.self.view_is) (grown_live (λ x. ⊥) c.in_err-slot.ensures.refused c.self.invariant)

pub returns-in_err-slot-clause-ahead : goal.returns-in_err-slot-clause-ahead
returns-in_err-slot-clause-ahead g c =
    rw (← c.self.view_is) (ap reverse (grown_ahead (λ x. ⊥) c.in_err-slot.ensures.refused c.self.invariant))

pub returns-in_err-slot-clause-refused : goal.returns-in_err-slot-clause-refused
returns-in_err-slot-clause-refused g c =
    on_err_any c.from_residual-in_err-slot.result (record {
      past = returns-in_err-slot-clause-past g c;
      first = ap (λ v. v.first) c.self.view_is;
      now = returns-in_err-slot-clause-now g c;
      ahead = returns-in_err-slot-clause-ahead g c;
      root = ap (λ v. v.root) c.self.view_is;
      placed = widened_keys c.in_err-slot.ensures.refused ∙ ap (λ v. v.placed) c.self.view_is;
    })
