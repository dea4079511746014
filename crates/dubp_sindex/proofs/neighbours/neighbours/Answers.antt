use Rattle.std.proofs.Common.{◌≡◌, Some, None, sym, subst, ◌∙◌, arith}
use Rattle.dubp_sindex.proofs.Walking.{IsBack, back_begins, back_none, back_some, back_goes}
use Rattle.dubp_sindex.proofs.neighbours.neighbours.Goals as goal

pub back-init : goal.back-init
back-init c = λ origins account rows at are last free. back_begins rows account c.args.place c.args.last c.none-after.result last c.none-after.ensures

pub returns-then-here-place-clause-before : goal.returns-then-here-place-clause-before
returns-then-here-place-clause-before c = λ origins account rows at are last free.
    let here : c.back.before ≡ Some c.in-Some.here = sym c.in-Some.ensures in
    let now = subst (λ o. IsBack rows account c.args.place o c.back.after) here (c.back.invariant origins account rows at are last free) in
    here ∙ (back_some rows are account c.args.place c.in-Some.here c.back.after now (omega (arith, c.if-here-place.true))).0

pub returns-then-here-place-clause-after : goal.returns-then-here-place-clause-after
returns-then-here-place-clause-after c = λ origins account rows at are last free.
    let now = subst (λ o. IsBack rows account c.args.place o c.back.after) (sym c.in-Some.ensures) (c.back.invariant origins account rows at are last free) in
    (back_some rows are account c.args.place c.in-Some.here c.back.after now (omega (arith, c.if-here-place.true))).1

pub back-preserved : goal.back-preserved
back-preserved c = λ origins account rows at are last free.
    let now = subst (λ o. IsBack rows account c.args.place o c.back.after) (sym c.in-Some.ensures) (c.back.invariant origins account rows at are last free) in
    subst (λ o. IsBack rows account c.args.place c.before_it-before.result o) c.in-Some.ensures
    (back_goes rows are account c.args.place origins c.in-Some.here c.back.after c.before_it-before.result now (λ lt. omega (arith, lt, c.if-here-place.false)) free
    (λ l row falls. c.before_it-before.ensures.is l (at c.in-Some.here ∙ row) falls))

pub returns-clause-before : goal.returns-clause-before
returns-clause-before c = λ origins account rows at are last free.
    let none : c.back.before ≡ None = sym c.in_default.ensures in
    let now = subst (λ o. IsBack rows account c.args.place o c.back.after) none (c.back.invariant origins account rows at are last free) in
    none ∙ (back_none rows are account c.args.place c.back.after now).0

pub returns-clause-after : goal.returns-clause-after
returns-clause-after c = λ origins account rows at are last free.
    let now = subst (λ o. IsBack rows account c.args.place o c.back.after) (sym c.in_default.ensures) (c.back.invariant origins account rows at are last free) in
    (back_none rows are account c.args.place c.back.after now).1
