use Rattle.std.proofs.Common.{◌≡◌, ◌∙◌, ◌++◌, ◌∷◌, [], ap, ◌-◌, length, take, arith}
use Rattle.std.specs.Option.{option_to_list}
use Rattle.dubp_journal.specs.Journal.{Follows}
use Rattle.dubp_journal.proofs.Forgetting.{counted_back}
use Rattle.dubp_journal.proofs.Turning.{back_parts}
use Rattle.dubp_journal.proofs.table.UndoTable.back.Goals as goal

pub invariant_of-self : goal.invariant_of-self
invariant_of-self g c =
    let t = c.self.inside in
    let n = c.unwrap-n.result in
    let split : t.marks.items ≡ c.pop_back.new.self.items ++ n ∷ [] = c.pop_back.ensures.items ∙ ap (λ o. c.pop_back.new.self.items ++ option_to_list o) c.unwrap-n.ensures in
    let r = c.undo_last.ensures in
    let f : Follows t.uses.items c.undo_last.new.uses.items t.journal.items (take (length t.journal.items - n) t.journal.items) = rw (← r.journal) r.uses in
    rw (r.journal, r.slots, r.capacity, c.pop_back.ensures.capacity) (back_parts t.marks.items c.pop_back.new.self.items _ n t.spare f split c.self.invariant).kept

pub returns-clause-past : goal.returns-clause-past
returns-clause-past g c =
    let t = c.self.inside in
    let n = c.unwrap-n.result in
    let split : t.marks.items ≡ c.pop_back.new.self.items ++ n ∷ [] = c.pop_back.ensures.items ∙ ap (λ o. c.pop_back.new.self.items ++ option_to_list o) c.unwrap-n.ensures in
    let r = c.undo_last.ensures in
    let f : Follows t.uses.items c.undo_last.new.uses.items t.journal.items (take (length t.journal.items - n) t.journal.items) = rw (← r.journal) r.uses in
    let taken : c.undo_last.new.steps - c.args.steps.now ≡ n = omega (arith, r.steps) in
    rw (r.journal, r.slots, taken, ← c.self.view_is) (back_parts t.marks.items c.pop_back.new.self.items _ n t.spare f split c.self.invariant).past

pub undo_last-requires-clause-counted : goal.undo_last-requires-clause-counted
undo_last-requires-clause-counted g c = λ i. counted_back c.self.invariant i
