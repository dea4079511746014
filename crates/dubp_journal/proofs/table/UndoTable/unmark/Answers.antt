use Rattle.std.proofs.Common.{◌≡◌, ◌∙◌, ◌++◌, ◌∷◌, [], ap}
use Rattle.std.specs.Option.{option_to_list}
use Rattle.dubp_journal.specs.MovingTable.{last_count}
use Rattle.dubp_journal.proofs.Turning.{unmark_parts}
use Rattle.dubp_journal.proofs.table.UndoTable.unmark.Goals as goal

pub invariant_of-self : goal.invariant_of-self
invariant_of-self g c =
    let t = c.self.inside in
    let n = c.unwrap-count.result in
    let split : t.marks.items ≡ c.pop_back.new.self.items ++ n ∷ [] = c.pop_back.ensures.items ∙ ap (λ o. c.pop_back.new.self.items ++ option_to_list o) c.unwrap-count.ensures in
    let none = ap (λ v. last_count v.past) c.self.view_is ∙ c.requires.fresh in
    rw c.pop_back.ensures.capacity (unmark_parts t.marks.items c.pop_back.new.self.items t.redo_marks.items n t.spare split none c.self.invariant).kept

pub returns-clause-past : goal.returns-clause-past
returns-clause-past g c =
    let t = c.self.inside in
    let n = c.unwrap-count.result in
    let split : t.marks.items ≡ c.pop_back.new.self.items ++ n ∷ [] = c.pop_back.ensures.items ∙ ap (λ o. c.pop_back.new.self.items ++ option_to_list o) c.unwrap-count.ensures in
    let none = ap (λ v. last_count v.past) c.self.view_is ∙ c.requires.fresh in
    rw (← c.self.view_is) (unmark_parts t.marks.items c.pop_back.new.self.items t.redo_marks.items n t.spare split none c.self.invariant).past
