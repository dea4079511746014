use Rattle.std.proofs.Common.{subst, ◌≡◌, ◌∙◌, ◌++◌, ◌∷◌, ap, length, drop, arith}
use Rattle.std.specs.Option.{option_to_list}
use Rattle.dubp_journal.specs.MovingTable.{MovingTable, PlacesFewer}
use Rattle.dubp_journal.proofs.Journals.{length-states}
use Rattle.dubp_journal.proofs.Turning.{oldest_parts, oldest_few}
use Rattle.dubp_journal.specs.Journal.{Follows}
use Rattle.dubp_journal.proofs.Forgetting.{counted_back}
use Rattle.dubp_journal.proofs.table.UndoTable.drop_oldest.Goals as goal

pub unwrap-n-requires : goal.unwrap-n-requires
unwrap-n-requires g c =
    let t = c.self.inside in
    let n = length-states t.keys.items t.slots t.journal.items t.marks.items in
    let is = ap (λ v. length v.past) c.self.view_is in
    c.pop_front.ensures.variant.1 (omega (arith, n, is, t.marks.ok.0, c.requires))

pub drop_first-requires-clause-few : goal.drop_first-requires-clause-few
drop_first-requires-clause-few g c =
    let t = c.self.inside in
    let n = c.unwrap-n.result in
    let split : t.marks.items ≡ n ∷ c.pop_front.new.self.items = c.pop_front.ensures.items ∙ ap (λ o. option_to_list o ++ c.pop_front.new.self.items) c.unwrap-n.ensures in
    oldest_few t.marks.items c.pop_front.new.self.items t.redo_marks.items n t.spare split c.self.invariant

pub drop_first-requires-clause-within : goal.drop_first-requires-clause-within
drop_first-requires-clause-within g c = rw c.self.invariant.places.uses_each c.self.invariant.back_ok.within

pub drop_first-requires-clause-counted : goal.drop_first-requires-clause-counted
drop_first-requires-clause-counted g c = λ i. counted_back c.self.invariant i

pub invariant_of-self : goal.invariant_of-self
invariant_of-self g c =
    let t = c.self.inside in
    let n = c.unwrap-n.result in
    let split : t.marks.items ≡ n ∷ c.pop_front.new.self.items = c.pop_front.ensures.items ∙ ap (λ o. option_to_list o ++ c.pop_front.new.self.items) c.unwrap-n.ensures in
    let r = c.drop_first.ensures in
    let f : Follows t.uses.items c.drop_first.new.uses.items t.journal.items (drop n t.journal.items) = rw (← r.items) r.uses in
    let parts = oldest_parts t.marks.items c.pop_front.new.self.items t.redo_marks.items n t.spare f split c.self.invariant in
    rw (r.items, r.capacity, c.pop_front.ensures.capacity) parts.kept

pub returns-clause-placed : goal.returns-clause-placed
returns-clause-placed g c = subst (λ (v : MovingTable g.row.K.Denot g.row.V.Denot). PlacesFewer g.F.Finder.cmp v.placed c.forget.new.self.placed) c.self.view_is c.forget.ensures.placed
