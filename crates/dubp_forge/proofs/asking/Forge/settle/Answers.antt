use Rattle.std.proofs.Common.{◌≡◌, ◌<◌, ◌≤◌, [], ◌∷◌, ap, arith, length, subst}
use Rattle.dubp_forging.specs.Forged.{Passes}
use Rattle.dubp_forge.specs.Steps.{docs_at, docs_of}
use Rattle.dubp_forge.proofs.Standing.{as_many_docs, few_places}
use Rattle.dubp_forge.proofs.asking.Forge.settle.Goals as goal

pub returns-then-len-count-clause-settles : goal.returns-then-len-count-clause-settles
returns-then-len-count-clause-settles g c =
    let f = c.args.self.now in
    let d = c.loop-left.draft in
    let e = c.pass.new.draft in
    let short : length e.places.items ≤ length d.places.items = omega (arith, c.if-len-count.true, c.len.ensures, c.len-count.ensures, d.places.ok.0, e.places.ok.0) in
    let same : docs_of f e ≡ docs_of f d = ap (docs_at f.pool) (c.in_ok-left.ensures.same short) in
    c.loop-left.invariant.settles [] (docs_of f e) (subst (Passes f f.pool (docs_of f d)) same c.in_ok-left.ensures.passes, same)

pub loop-left-smaller : goal.loop-left-smaller
loop-left-smaller g c =
    let f = c.args.self.now in
    let d = c.loop-left.draft in
    let e = c.pass.new.draft in
    omega (arith, c.if-len-count.false, c.len.ensures, c.len-count.ensures, d.places.ok.0, e.places.ok.0, c.in_ok-left.ensures.grows, few_places f e.block e.places.items e.marks.items c.in_ok-left.ensures.stands)

pub loop-left-preserved : goal.loop-left-preserved
loop-left-preserved g c =
    let f = c.args.self.now in
    let d = c.loop-left.draft in
    let e = c.pass.new.draft in
    let longer : length (docs_of f d) < length (docs_of f e) =
    omega (
      arith,
      c.if-len-count.false,
      c.len.ensures,
      c.len-count.ensures,
      d.places.ok.0,
      e.places.ok.0,
      c.in_ok-left.ensures.grows,
      as_many_docs f d.block d.places.items d.marks.items c.loop-left.invariant.stands,
      as_many_docs f e.block e.places.items e.marks.items c.in_ok-left.ensures.stands,
    ) in
    record {
      stands = c.in_ok-left.ensures.stands;
      settles = λ passes new on. c.loop-left.invariant.settles (docs_of f e ∷ passes) new (c.in_ok-left.ensures.passes, longer, on);
    }
