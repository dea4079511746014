use Rattle.std.proofs.Common.{Bool, true, false, cond, Option, ap, sym, ◌∙◌, ◌≡◌}
use Rattle.std.specs.Prelude.{is_some, if◌then◌else◌}
use Rattle.std.specs.Cmp.Lexicographic.{slice_cmp, texts_ties}
use Rattle.std.specs.Ordering.{nat_cmp}
use Rattle.dubp_atoms.specs.Same.{same_text}
use Rattle.dubp_undo.specs.MovingTable.{get}
use Rattle.dubp_people.proofs.Rows.{some_of}
use Rattle.dubp_people.proofs.kicked.note.Goals as goal

shown : (a b : Bool) (x y : Option (Unit {0})) (is : Bool) → a ≡ b → is_some x ≡ is → is_some (cond b x y) ≡ (if a then is else is_some y)
shown a true x y is e f = (λ i. is_some x) ∙ f ∙ ap (λ a. if a then is else is_some y) (sym e)
shown a false x y is e f = ap (λ a. if a then is else is_some y) (sym e)

pub returns-clause-now : goal.returns-clause-now
returns-clause-now g c = λ k.
    ap is_some (c.in_ok-set.ensures.now k)
    ∙ shown (same_text k c.args.key) _ c.noted.result (get (slice_cmp nat_cmp) c.args.kicked.now.table.now k) c.args.is (texts_ties k c.args.key) (some_of c.noted.result c.args.is c.noted.ensures)
