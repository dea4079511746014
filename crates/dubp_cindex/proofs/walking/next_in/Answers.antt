use Rattle.std.proofs.Common.{not, ap, sym, ◌∙◌, subst}
use Rattle.dubp_atoms.specs.Same.{same_text}
use Rattle.std.specs.declared.ops.Bound.{Bound}
use Rattle.std.specs.BTreeMap.Range.{IsFromStart}
use Rattle.dubp_undo.specs.MovingTable.{IsLeast, HasNone}
use Rattle.dubp_cindex.specs.Orders.{Place, place_cmp}
use Rattle.dubp_cindex.proofs.Following.{follows-other, follows-none, told_other, told_own, follows-place, follows-without}
use Rattle.dubp_cindex.proofs.walking.next_in.Goals as goal

pub returns-in_err-place-clause-follows : goal.returns-in_err-place-clause-follows
returns-in_err-place-clause-follows g c = λ after is.
    let w = c.args.walk.now in
    rw c.from_residual.ensures (follows-none w.map c.args.owner.now after (subst (λ (b : Bound Place). HasNone place_cmp w.map (IsFromStart place_cmp b)) is c.in_err-place.ensures.none))

pub returns-then-ne-clause-follows : goal.returns-then-ne-clause-follows
returns-then-ne-clause-follows g c = λ after is.
    let w = c.args.walk.now in
    follows-other w.map c.args.owner.now after c.in_ok-place.place.0 c.in_ok-place.place.1 c.in_ok-place.value
    (told_other c.args.owner.now c.in_ok-place.place.0 (sym (ap (λ p. not (same_text p.0 c.args.owner.now)) c.place.view_is) ∙ sym c.ne.ensures ∙ c.if-ne.true)) (subst (λ (b : Bound Place). IsLeast place_cmp w.map (IsFromStart place_cmp b) (c.in_ok-place.place, c.in_ok-place.value)) is c.in_ok-place.ensures.found)

pub returns-in_err-other-clause-follows : goal.returns-in_err-other-clause-follows
returns-in_err-other-clause-follows g c = λ after is.
    let w = c.args.walk.now in
    rw c.from_residual-in_err-other.ensures (follows-without w.map c.args.owner.now after c.in_ok-place.place c.in_ok-place.value
    (told_own c.args.owner.now c.in_ok-place.place.0 (sym (ap (λ p. not (same_text p.0 c.args.owner.now)) c.place.view_is) ∙ sym c.ne.ensures ∙ c.if-ne.false)) (sym (ap (λ p. p.1) c.place.view_is) ∙ c.in_err-other.was) (subst (λ (b : Bound Place). IsLeast place_cmp w.map (IsFromStart place_cmp b) (c.in_ok-place.place, c.in_ok-place.value)) is c.in_ok-place.ensures.found))

pub returns-clause-follows : goal.returns-clause-follows
returns-clause-follows g c = λ after is.
    let w = c.args.walk.now in
    follows-place w.map c.args.owner.now after c.in_ok-place.place c.in_ok-place.value c.in_ok-other.other
    (told_own c.args.owner.now c.in_ok-place.place.0 (sym (ap (λ p. not (same_text p.0 c.args.owner.now)) c.place.view_is) ∙ sym c.ne.ensures ∙ c.if-ne.false)) (sym (ap (λ p. p.1) c.place.view_is) ∙ c.in_ok-other.was) (subst (λ (b : Bound Place). IsLeast place_cmp w.map (IsFromStart place_cmp b) (c.in_ok-place.place, c.in_ok-place.value)) is c.in_ok-place.ensures.found)
