use Rattle.std.proofs.Common.{◌≡◌, ◌∙◌, length, ap, subst, sym, reverse, arith}
use Rattle.std.specs.VecDeque.{deque_len}
use Rattle.std.proofs.lemmas.Bool.{eqb-true}
use Rattle.dubp_journal.specs.MovingTable.{MovingTable, IsAllPlaced, PlacesFewer}
use Rattle.dubp_journal.specs.Slots.{keys_in, GivesUp}
use Rattle.dubp_journal.proofs.Covering.{all_placed}
use Rattle.dubp_journal.proofs.Forgetting.{swept_kept, swept_live, swept_states, swept_placed, no_states}
use Rattle.dubp_journal.proofs.table.UndoTable.forget.Given.{Over}
use Rattle.dubp_journal.proofs.table.UndoTable.forget.Goals as goal
use Rattle.dubp_journal.proofs.table.UndoTable.forget.Goals.{After-drop-self-inside}

gives : (g : Over) (c : After-drop-self-inside g) → let t = c.self.inside in GivesUp g.F.Finder.cmp t.uses.items t.slots t.keys.items (g.F.Finder.slot_of t.finder) c.give_up_idle.new.keys.items (g.F.Finder.slot_of c.give_up_idle.new.finder)
gives g c = rw (← c.deref.ensures.value) c.give_up_idle.ensures

none_ahead : (g : Over) (c : After-drop-self-inside g) → length c.self.inside.redo_marks.items ≡ 0
none_ahead g c =
    let none = eqb-true (deque_len c.self.inside.redo_marks) 0 (sym c.if-is_empty.ensures) in
    omega (arith, none, c.self.inside.redo_marks.ok.0)

pub invariant_of-self : goal.invariant_of-self
invariant_of-self g c = rw c.of.ensures (swept_kept c.self.invariant (gives g c) (none_ahead g c))

pub returns-then-is_empty-clause-past : goal.returns-then-is_empty-clause-past
returns-then-is_empty-clause-past g c = swept_states c.self.invariant (gives g c) ∙ ap (λ v. v.past) c.self.view_is

pub returns-then-is_empty-clause-now : goal.returns-then-is_empty-clause-now
returns-then-is_empty-clause-now g c = swept_live c.self.invariant (gives g c) ∙ ap (λ v. v.now) c.self.view_is

pub returns-then-is_empty-clause-ahead : goal.returns-then-is_empty-clause-ahead
returns-then-is_empty-clause-ahead g c =
    let t = c.self.inside in
    ap reverse (no_states t.keys.items c.give_up_idle.new.keys.items t.root.value c.of.result.value t.redo.items t.redo_marks.items (none_ahead g c)) ∙ ap (λ v. v.ahead) c.self.view_is

pub returns-then-is_empty-clause-placed : goal.returns-then-is_empty-clause-placed
returns-then-is_empty-clause-placed g c =
    subst (λ (v : MovingTable g.row.K.Denot g.row.V.Denot). PlacesFewer g.F.Finder.cmp v.placed (keys_in c.give_up_idle.new.keys.items)) c.self.view_is (λ q is. swept_placed c.self.invariant (gives g c) q is)

pub returns-then-is_empty-clause-held : goal.returns-then-is_empty-clause-held
returns-then-is_empty-clause-held g c = all_placed _ _ (invariant_of-self g c)

pub returns-else-is_empty-clause-held : goal.returns-else-is_empty-clause-held
returns-else-is_empty-clause-held g c = subst (λ (v : MovingTable g.row.K.Denot g.row.V.Denot). IsAllPlaced g.F.Finder.cmp v) c.self.view_is (all_placed _ _ c.self.invariant)
