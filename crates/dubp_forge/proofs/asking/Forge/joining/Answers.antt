use Rattle.std.proofs.Common.{◌≡◌, ◌<◌, ◌∙◌, Some, ap, arith, length, subst, sym}
use Rattle.std.specs.List.{slice_get}
use Rattle.dubp_forging.specs.Forged.{is_joining}
use Rattle.dubp_forge.specs.Steps.{comes_with, docs_of}
use Rattle.dubp_forge.proofs.Growing.{failed_by, found_here, found_past, met_by, passed_by}
use Rattle.dubp_forge.proofs.Standing.{mark_is, mark_read, marked_at}
use Rattle.dubp_forge.proofs.asking.Forge.joining.Goals as goal

pub returns-then-is_joining : goal.returns-then-is_joining
returns-then-is_joining g c =
    let f = c.args.self.now in
    let d = c.args.draft.now in
    let p = c.loop-place.place in
    let i = c.args.identity.now in
    let lt : p < length f.pool = omega (arith, c.loop-place-test.true, c.held-place-end.ensures, ap (λ x. length x.pool) c.self.view_is) in
    let at = subst (λ x. slice_get x.pool p ≡ Some c.at.result.now) c.self.view_is c.at.ensures in
    let free = mark_read f d.block d.places.items d.marks.items c.requires p c.index.result.now lt c.index.ensures ∙ ap Some c.if-index.false in
    let out = mark_is f d.block d.places.items d.marks.items c.requires p c.at.result.now _ at free in (
      free,
      found_here (comes_with (docs_of f d) i) f.pool p c.at.result.now at c.loop-place.invariant
          (met_by (docs_of f d) c.at.result.now (is_joining i c.at.result.now) (sym c.is_joining.ensures ∙ c.if-is_joining.true) out) ∙ sym at,
    )

pub loop-place-preserved-then-index : goal.loop-place-preserved-then-index
loop-place-preserved-then-index g c =
    let f = c.args.self.now in
    let d = c.args.draft.now in
    let p = c.loop-place.place in
    let i = c.args.identity.now in
    let lt : p < length f.pool = omega (arith, c.loop-place-test.true, c.held-place-end.ensures, ap (λ x. length x.pool) c.self.view_is) in
    let m = marked_at f d.block d.places.items d.marks.items c.requires p c.index.result.now lt c.index.ensures in
    found_past (comes_with (docs_of f d) i) f.pool p m.d m.at c.loop-place.invariant (passed_by (docs_of f d) m.d (is_joining i m.d) (m.is ∙ c.if-index.true))

pub loop-place-preserved : goal.loop-place-preserved
loop-place-preserved g c =
    let f = c.args.self.now in
    let d = c.args.draft.now in
    let p = c.loop-place.place in
    let i = c.args.identity.now in
    let at = subst (λ x. slice_get x.pool p ≡ Some c.at.result.now) c.self.view_is c.at.ensures in
    found_past (comes_with (docs_of f d) i) f.pool p c.at.result.now at c.loop-place.invariant
    (failed_by (docs_of f d) c.at.result.now (is_joining i c.at.result.now) (sym c.is_joining.ensures ∙ c.if-is_joining.false))
