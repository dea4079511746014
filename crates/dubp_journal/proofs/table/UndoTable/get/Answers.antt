use Rattle.std.proofs.Common.{◌∙◌, ap, sym, arith}
use Rattle.dubp_journal.specs.MovingTable.{get}
use Rattle.dubp_journal.proofs.Live.{held, get-live, slot_within}
use Rattle.dubp_journal.proofs.table.UndoTable.get.Goals as goal

pub returns-in_err-slot : goal.returns-in_err-slot
returns-in_err-slot g c =
    let t = c.self.inside in
    let live_is = get-live c.self.invariant.finds c.args.k t.slots in
    let none = sym c.slot.ensures ∙ c.in_err-slot.was in
    rw c.from_residual.ensures (sym (ap (λ v. get g.F.Finder.cmp v.now c.args.k) (sym c.self.view_is) ∙ live_is ∙ ap (held t.slots) none))

pub returns : goal.returns
returns g c =
    let t = c.self.inside in
    let live_is = get-live c.self.invariant.finds c.args.k t.slots in
    let found = sym c.slot.ensures ∙ c.in_ok-slot.was in
    c.get.ensures ∙ sym (ap (λ v. get g.F.Finder.cmp v.now c.args.k) (sym c.self.view_is) ∙ live_is ∙ ap (held t.slots) found)

pub get-requires : goal.get-requires
get-requires g c =
    let found = sym c.slot.ensures ∙ c.in_ok-slot.was in
    omega (arith, slot_within c.self.invariant.finds c.args.k _ found, c.self.invariant.places.keys_each)
