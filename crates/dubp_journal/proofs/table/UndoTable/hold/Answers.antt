use Rattle.std.proofs.Common.{◌≡◌, ◌∙◌, ◌++◌, ◌∷◌, [], ◌⊎◌, length, ap, subst, sym, ◌-◌, ◌+◌, arith}
use Rattle.std.specs.Option.{option_to_list}
use Rattle.dubp_journal.specs.MovingTable.{MovingTable, SameValues}
use Rattle.dubp_journal.proofs.Turning.{hold_parts, length-moved}
use Rattle.dubp_journal.proofs.table.UndoTable.hold.Goals as goal

pub move_last-requires-clause-room : goal.move_last-requires-clause-room
move_last-requires-clause-room g c =
    let t = c.self.inside in
    let n = c.unwrap-n.result in
    let split : t.marks.items ≡ c.pop_back.new.self.items ++ n ∷ [] = c.pop_back.ensures.items ∙ ap (λ o. c.pop_back.new.self.items ++ option_to_list o) c.unwrap-n.ensures in
    let less : t.spare ≡ t.spare - 1 + 1 = omega (arith, ap (λ v. v.spare) c.self.view_is, c.requires.spare) in
    let begins = subst (λ (v : MovingTable g.row.K.Denot g.row.V.Denot). (v.ahead ≡ []) ⊎ SameValues g.F.Finder.cmp v.now v.root) (sym c.self.view_is) c.requires.begins in
    (hold_parts g.met.F.Finder.total t.marks.items c.pop_back.new.self.items t.redo_marks.items n (t.spare - 1) t.spare split less c.self.invariant begins).room

pub push_back_reserved-requires : goal.push_back_reserved-requires
push_back_reserved-requires g c =
    let t = c.self.inside in
    omega (arith, c.self.invariant.room.forward_marks, ap (λ v. v.spare) c.self.view_is, c.requires.spare, t.redo_marks.ok.0)

pub invariant_of-self : goal.invariant_of-self
invariant_of-self g c =
    let t = c.self.inside in
    let n = c.unwrap-n.result in
    let split : t.marks.items ≡ c.pop_back.new.self.items ++ n ∷ [] = c.pop_back.ensures.items ∙ ap (λ o. c.pop_back.new.self.items ++ option_to_list o) c.unwrap-n.ensures in
    let less : t.spare ≡ t.spare - 1 + 1 = omega (arith, ap (λ v. v.spare) c.self.view_is, c.requires.spare) in
    let begins = subst (λ (v : MovingTable g.row.K.Denot g.row.V.Denot). (v.ahead ≡ []) ⊎ SameValues g.F.Finder.cmp v.now v.root) (sym c.self.view_is) c.requires.begins in
    let r = c.move_last.ensures in
    let p = c.push_back_reserved.ensures in
    let parts = hold_parts g.met.F.Finder.total t.marks.items c.pop_back.new.self.items t.redo_marks.items n (t.spare - 1) t.spare split less c.self.invariant begins in
    rw (c.of.ensures, c.of-2.ensures, c.of-3.ensures, p.items, p.capacity, r.from, r.to, r.slots, r.from_capacity, r.to_capacity, c.pop_back.ensures.capacity) parts.kept

pub returns-clause-past : goal.returns-clause-past
returns-clause-past g c =
    let t = c.self.inside in
    let n = c.unwrap-n.result in
    let split : t.marks.items ≡ c.pop_back.new.self.items ++ n ∷ [] = c.pop_back.ensures.items ∙ ap (λ o. c.pop_back.new.self.items ++ option_to_list o) c.unwrap-n.ensures in
    let less : t.spare ≡ t.spare - 1 + 1 = omega (arith, ap (λ v. v.spare) c.self.view_is, c.requires.spare) in
    let begins = subst (λ (v : MovingTable g.row.K.Denot g.row.V.Denot). (v.ahead ≡ []) ⊎ SameValues g.F.Finder.cmp v.now v.root) (sym c.self.view_is) c.requires.begins in
    let r = c.move_last.ensures in
    let taken : c.move_last.new.steps - c.args.steps.now ≡ n = omega (arith, r.steps) in
    let parts = hold_parts g.met.F.Finder.total t.marks.items c.pop_back.new.self.items t.redo_marks.items n (t.spare - 1) t.spare split less c.self.invariant begins in
    rw (r.from, r.slots, taken, ← c.self.view_is) parts.past

pub returns-clause-ahead : goal.returns-clause-ahead
returns-clause-ahead g c =
    let t = c.self.inside in
    let n = c.unwrap-n.result in
    let split : t.marks.items ≡ c.pop_back.new.self.items ++ n ∷ [] = c.pop_back.ensures.items ∙ ap (λ o. c.pop_back.new.self.items ++ option_to_list o) c.unwrap-n.ensures in
    let less : t.spare ≡ t.spare - 1 + 1 = omega (arith, ap (λ v. v.spare) c.self.view_is, c.requires.spare) in
    let begins = subst (λ (v : MovingTable g.row.K.Denot g.row.V.Denot). (v.ahead ≡ []) ⊎ SameValues g.F.Finder.cmp v.now v.root) (sym c.self.view_is) c.requires.begins in
    let r = c.move_last.ensures in
    let taken : c.move_last.new.steps - c.args.steps.now ≡ n = omega (arith, r.steps) in
    let parts = hold_parts g.met.F.Finder.total t.marks.items c.pop_back.new.self.items t.redo_marks.items n (t.spare - 1) t.spare split less c.self.invariant begins in
    rw (c.of.ensures, c.push_back_reserved.ensures.items, r.to, r.slots, taken, ← c.self.view_is) parts.ahead

pub returns-clause-room_stays : goal.returns-clause-room_stays
returns-clause-room_stays g c =
    let t = c.self.inside in
    let n = c.unwrap-n.result in
    let split : t.marks.items ≡ c.pop_back.new.self.items ++ n ∷ [] = c.pop_back.ensures.items ∙ ap (λ o. c.pop_back.new.self.items ++ option_to_list o) c.unwrap-n.ensures in
    let less : t.spare ≡ t.spare - 1 + 1 = omega (arith, ap (λ v. v.spare) c.self.view_is, c.requires.spare) in
    let begins = subst (λ (v : MovingTable g.row.K.Denot g.row.V.Denot). (v.ahead ≡ []) ⊎ SameValues g.F.Finder.cmp v.now v.root) (sym c.self.view_is) c.requires.begins in
    let r = c.move_last.ensures in
    let parts = hold_parts g.met.F.Finder.total t.marks.items c.pop_back.new.self.items t.redo_marks.items n (t.spare - 1) t.spare split less c.self.invariant begins in
    omega (arith, ap (λ v. v.room) c.self.view_is, r.from_capacity, ap length r.from, ap length r.to, length-moved t.slots t.journal.items t.redo.items n parts.few)
