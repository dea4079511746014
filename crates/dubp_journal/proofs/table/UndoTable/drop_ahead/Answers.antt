use Rattle.std.proofs.Common.{subst, ◌≡◌, ◌∙◌, [], arith}
use Rattle.std.proofs.lemmas.List.{drop_all}
use Rattle.dubp_journal.specs.MovingTable.{MovingTable, PlacesFewer}
use Rattle.dubp_journal.specs.Journal.{Follows}
use Rattle.dubp_journal.proofs.Forgetting.{counted_ahead, forgotten_kept}
use Rattle.dubp_journal.proofs.table.UndoTable.drop_ahead.Goals as goal

pub drop_first-requires-clause-within : goal.drop_first-requires-clause-within
drop_first-requires-clause-within g c =
    let k = c.self.invariant in
    λ i d lt. omega (arith, k.forward_ok.within i d lt, k.root_fits, k.places.uses_each)

pub drop_first-requires-clause-counted : goal.drop_first-requires-clause-counted
drop_first-requires-clause-counted g c = λ i. counted_ahead c.self.invariant i

pub invariant_of-self : goal.invariant_of-self
invariant_of-self g c =
    let t = c.self.inside in
    let r = c.drop_first.ensures in
    let none : c.drop_first.new.journal.items ≡ [] = r.items ∙ drop_all c.len-changes.result t.redo.items (omega (arith, c.len-changes.ensures, t.redo.ok.0)) in
    let f : Follows t.uses.items c.drop_first.new.uses.items t.redo.items [] = rw (← none) r.uses in
    rw (none, r.capacity, c.clear.ensures.items, c.clear.ensures.capacity) (forgotten_kept c.self.invariant f)

pub returns-clause-placed : goal.returns-clause-placed
returns-clause-placed g c = subst (λ (v : MovingTable g.row.K.Denot g.row.V.Denot). PlacesFewer g.F.Finder.cmp v.placed c.forget.new.self.placed) c.self.view_is c.forget.ensures.placed
