use Rattle.std.proofs.Common.{◌≡◌, ◌<◌, ◌∙◌, Some, ap, arith, length, subst, sym}
use Rattle.std.specs.List.{slice_get}
use Rattle.dubp_forging.specs.Forged.{is_certifying}
use Rattle.dubp_forge.specs.Steps.{docs_of}
use Rattle.dubp_forge.proofs.Growing.{extends_through, failed_by, met_by, passed_by}
use Rattle.dubp_forge.proofs.Passing.{certifies_more, certifies_past}
use Rattle.dubp_forge.proofs.Standing.{mark_is, mark_read, marked_at}
use Rattle.dubp_forge.proofs.asking.Forge.add_certifications.Goals as goal

pub loop-place-preserved-then-index : goal.loop-place-preserved-then-index
loop-place-preserved-then-index g c =
    let f = c.args.self.now in
    let d = c.loop-place.draft in
    let p = c.loop-place.place in
    let k = c.args.key.now in
    let inv = c.loop-place.invariant in
    let lt : p < length f.pool = omega (arith, c.loop-place-test.true, c.held-place-end.ensures, ap (λ x. length x.pool) c.self.view_is) in
    let m = marked_at f d.block d.places.items d.marks.items inv.stands p c.index.result.now lt c.index.ensures in
    record {
      stands = inv.stands;
      grows = inv.grows;
      certifies = certifies_past f k p (docs_of f c.args.draft.now) (docs_of f d) m.d m.at (passed_by (docs_of f d) m.d (is_certifying k m.d) (m.is ∙ c.if-index.true)) inv.certifies;
    }

pub loop-place-preserved-then-not-is_certifying : goal.loop-place-preserved-then-not-is_certifying
loop-place-preserved-then-not-is_certifying g c =
    let f = c.args.self.now in
    let d = c.loop-place.draft in
    let p = c.loop-place.place in
    let k = c.args.key.now in
    let e = c.at.result.now in
    let inv = c.loop-place.invariant in
    let at = subst (λ x. slice_get x.pool p ≡ Some e) c.self.view_is c.at.ensures in
    record {
      stands = inv.stands;
      grows = inv.grows;
      certifies = certifies_past f k p (docs_of f c.args.draft.now) (docs_of f d) e at (failed_by (docs_of f d) e (is_certifying k e) (sym c.is_certifying.ensures ∙ c.if-not-is_certifying.true)) inv.certifies;
    }

pub offer-requires-clause-free : goal.offer-requires-clause-free
offer-requires-clause-free g c =
    let f = c.args.self.now in
    let d = c.loop-place.draft in
    let p = c.loop-place.place in
    let lt : p < length f.pool = omega (arith, c.loop-place-test.true, c.held-place-end.ensures, ap (λ x. length x.pool) c.self.view_is) in
    mark_read f d.block d.places.items d.marks.items c.loop-place.invariant.stands p c.index.result.now lt c.index.ensures ∙ ap Some c.if-index.false

pub loop-place-preserved : goal.loop-place-preserved
loop-place-preserved g c =
    let f = c.args.self.now in
    let d = c.loop-place.draft in
    let p = c.loop-place.place in
    let k = c.args.key.now in
    let e = c.at.result.now in
    let inv = c.loop-place.invariant in
    let lt : p < length f.pool = omega (arith, c.loop-place-test.true, c.held-place-end.ensures, ap (λ x. length x.pool) c.self.view_is) in
    let at = subst (λ x. slice_get x.pool p ≡ Some e) c.self.view_is c.at.ensures in
    let free = mark_read f d.block d.places.items d.marks.items inv.stands p c.index.result.now lt c.index.ensures ∙ ap Some c.if-index.false in
    let out = mark_is f d.block d.places.items d.marks.items inv.stands p e _ at free in
    record {
      stands = c.in_ok-offer.ensures.stands;
      grows = extends_through c.args.draft.now.places.items d.places.items c.offer.new.draft.places.items inv.grows c.in_ok-offer.ensures.grows;
      certifies = certifies_more f k p (docs_of f c.args.draft.now) (docs_of f d) (docs_of f c.offer.new.draft) e at
          (met_by (docs_of f d) e (is_certifying k e) (sym c.is_certifying.ensures ∙ c.if-not-is_certifying.false) out) (c.in_ok-offer.ensures.offers e at) inv.certifies;
    }
