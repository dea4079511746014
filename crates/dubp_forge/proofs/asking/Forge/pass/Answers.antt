use Rattle.std.proofs.Common.{◌≡◌, ◌<◌, ◌≤◌, ◌+◌, ◌∷◌, ◌++◌, [], ◌∙◌, None, Some, ap, arith, false, length, subst, sym}
use Rattle.std.specs.Prelude.{MatchOption}
use Rattle.std.specs.List.{slice_get}
use Rattle.std.proofs.lemmas.List.{length-map}
use Rattle.dubp_pool.specs.Pools.{AreApart, ArePending}
use Rattle.dubp_forging.specs.Forged.{is_in}
use Rattle.dubp_forge.specs.Steps.{Asks, docs_at, docs_of}
use Rattle.dubp_forge.proofs.Marks.{mark_at}
use Rattle.dubp_forge.proofs.Passing.{LeavesOn, PassesOn, leaves_all, leaves_one, leaves_past, passes_asked, passes_past}
use Rattle.dubp_forge.proofs.RunSteps.{run_longer, run_passes}
use Rattle.dubp_forge.proofs.Standing.{mark_read, marked_at}
use Rattle.dubp_forge.proofs.asking.Forge.pass.Goals as goal

pub loop-place-preserved-then-index : goal.loop-place-preserved-then-index
loop-place-preserved-then-index g c =
    let f = c.args.self.now in
    let d = c.loop-place.draft in
    let p = c.loop-place.place in
    let inv = c.loop-place.invariant in
    let lt : p < length f.pool = omega (arith, c.loop-place-test.true, c.held.ensures, ap (λ x. length x.pool) c.self.view_is) in
    let m = marked_at f d.block d.places.items d.marks.items inv.stands p c.index.result.now lt c.index.ensures in
    let in' = m.is ∙ c.if-index.true in
    record {
      stands = inv.stands;
      passes = passes_past f p (docs_of f c.args.draft.now) (docs_of f d) m.d m.at in' inv.passes;
      grows = inv.grows;
      same = inv.same;
      leaves = λ short. leaves_past f p (docs_of f d) c.loop-place.left.items m.d m.at in' (inv.leaves short);
    }

pub index-requires : goal.index-requires
index-requires g c =
    let f = c.args.self.now in
    let d = c.loop-place.draft in
    omega (arith, ap length c.loop-place.invariant.stands.marked, length-map f.pool (is_in (docs_of f d)), c.loop-place-test.true, c.held.ensures, ap (λ x. length x.pool) c.self.view_is)

pub take_many-requires-clause-free : goal.take_many-requires-clause-free
take_many-requires-clause-free g c =
    let f = c.args.self.now in
    let d = c.loop-place.draft in
    let p = c.loop-place.place in
    let lt : p < length f.pool = omega (arith, c.loop-place-test.true, c.held.ensures, ap (λ x. length x.pool) c.self.view_is) in
    mark_read f d.block d.places.items d.marks.items c.loop-place.invariant.stands p c.index.result.now lt c.index.ensures ∙ ap Some c.if-index.false

pub loop-place-preserved-then-end-place : goal.loop-place-preserved-then-end-place
loop-place-preserved-then-end-place g c =
    let f = c.args.self.now in
    let d = c.loop-place.draft in
    let e = c.take_many.new.draft in
    let p = c.loop-place.place in
    let inv = c.loop-place.invariant in
    let lt : p < length f.pool = omega (arith, c.loop-place-test.true, c.held.ensures, ap (λ x. length x.pool) c.self.view_is) in
    let m = marked_at f d.block d.places.items d.marks.items inv.stands p c.index.result.now lt c.index.ensures in
    let taken = c.in_ok-end.ensures.taken c.if-end-place.true in
    let apart : AreApart f.pool = (subst (λ x. ArePending x.pool) c.self.view_is c.laws.ensures).apart in
    let longer : length d.places.items < length e.places.items = run_longer f d e p c.in_ok-end.end m.d inv.stands c.in_ok-end.ensures.stands taken m.at (m.is ∙ c.if-index.false) c.if-end-place.true in
    record {
      stands = c.in_ok-end.ensures.stands;
      passes = run_passes f p c.in_ok-end.end (docs_of f c.args.draft.now) d e apart c.in_ok-end.ensures.end.0 taken inv.passes;
      grows = omega (arith, longer, inv.grows);
      same = λ short. absurd (omega (arith, longer, inv.grows, short));
      leaves = λ short. absurd (omega (arith, longer, inv.grows, short));
    }

pub ask-requires-clause-free : goal.ask-requires-clause-free
ask-requires-clause-free g c =
    let f = c.args.self.now in
    let d = c.loop-place.draft in
    let n = c.take_many.new.draft in
    let p = c.loop-place.place in
    let lt : p < length f.pool = omega (arith, c.loop-place-test.true, c.held.ensures, ap (λ x. length x.pool) c.self.view_is) in
    let m = marked_at f d.block d.places.items d.marks.items c.loop-place.invariant.stands p c.index.result.now lt c.index.ensures in
    let stays = c.in_ok-end.ensures.same (omega (arith, c.if-end-place.false)) in
    ap (λ ms. slice_get ms p) c.in_ok-end.ensures.stands.marked ∙ mark_at (docs_of f n) f.pool p m.d m.at
    ∙ ap Some (ap (λ ps. is_in (docs_at f.pool ps) m.d) stays ∙ m.is ∙ c.if-index.false)

pub loop-place-preserved-in-None : goal.loop-place-preserved-in-None
loop-place-preserved-in-None g c =
    let f = c.args.self.now in
    let o = c.loop-place.draft in
    let d = c.take_many.new.draft in
    let e = c.ask.new.draft in
    let p = c.loop-place.place in
    let kept = c.loop-place.invariant in
    let untaken = c.in_ok-end.ensures.same (omega (arith, c.if-end-place.false)) in
    let passed : PassesOn f p (docs_of f c.args.draft.now) (docs_of f d) = subst (λ ps. PassesOn f p (docs_of f c.args.draft.now) (docs_at f.pool ps)) (sym untaken) kept.passes in
    let grown : length c.args.draft.now.places.items ≤ length d.places.items = subst (λ ps. length c.args.draft.now.places.items ≤ length ps) (sym untaken) kept.grows in
    let sames : length d.places.items ≤ length c.args.draft.now.places.items → d.places.items ≡ c.args.draft.now.places.items = subst (λ ps. length ps ≤ length c.args.draft.now.places.items → ps ≡ c.args.draft.now.places.items) (sym untaken) kept.same in
    let leaving : length d.places.items ≤ length c.args.draft.now.places.items → LeavesOn f p (docs_of f d) c.loop-place.left.items = subst (λ ps. length ps ≤ length c.args.draft.now.places.items → LeavesOn f p (docs_at f.pool ps) c.loop-place.left.items) (sym untaken) kept.leaves in
    let lt : p < length f.pool = omega (arith, c.loop-place-test.true, c.held.ensures, ap (λ x. length x.pool) c.self.view_is) in
    let m = marked_at f o.block o.places.items o.marks.items kept.stands p c.index.result.now lt c.index.ensures in
    let gone : is_in (docs_of f d) m.d ≡ false = ap (λ ps. is_in (docs_at f.pool ps) m.d) untaken ∙ m.is ∙ c.if-index.false in
    let asks : Asks f (docs_of f d) m.d None (docs_of f e) = subst (λ o. Asks f (docs_of f d) m.d o (docs_of f e)) c.in-None.is (c.in_ok-found.ensures.asks m.d m.at) in
    let longer : length d.places.items < length e.places.items =
    subst (λ o. MatchOption o (length d.places.items < length e.places.items) (λ rule. e.places.items ≡ d.places.items)) c.in-None.is c.in_ok-found.ensures.grows in
    record {
      stands = c.in_ok-found.ensures.stands;
      passes = passes_asked f p (docs_of f c.args.draft.now) (docs_of f d) (docs_of f e) m.d None m.at gone asks passed;
      grows = omega (arith, longer, grown);
      same = λ short. absurd (omega (arith, longer, grown, short));
      leaves = λ short. absurd (omega (arith, longer, grown, short));
    }

pub loop-place-preserved : goal.loop-place-preserved
loop-place-preserved g c =
    let f = c.args.self.now in
    let o = c.loop-place.draft in
    let d = c.take_many.new.draft in
    let e = c.ask.new.draft in
    let p = c.loop-place.place in
    let rule = c.in-Some.rule in
    let kept = c.loop-place.invariant in
    let untaken = c.in_ok-end.ensures.same (omega (arith, c.if-end-place.false)) in
    let passed : PassesOn f p (docs_of f c.args.draft.now) (docs_of f d) = subst (λ ps. PassesOn f p (docs_of f c.args.draft.now) (docs_at f.pool ps)) (sym untaken) kept.passes in
    let grown : length c.args.draft.now.places.items ≤ length d.places.items = subst (λ ps. length c.args.draft.now.places.items ≤ length ps) (sym untaken) kept.grows in
    let sames : length d.places.items ≤ length c.args.draft.now.places.items → d.places.items ≡ c.args.draft.now.places.items = subst (λ ps. length ps ≤ length c.args.draft.now.places.items → ps ≡ c.args.draft.now.places.items) (sym untaken) kept.same in
    let leaving : length d.places.items ≤ length c.args.draft.now.places.items → LeavesOn f p (docs_of f d) c.loop-place.left.items = subst (λ ps. length ps ≤ length c.args.draft.now.places.items → LeavesOn f p (docs_at f.pool ps) c.loop-place.left.items) (sym untaken) kept.leaves in
    let lt : p < length f.pool = omega (arith, c.loop-place-test.true, c.held.ensures, ap (λ x. length x.pool) c.self.view_is) in
    let m = marked_at f o.block o.places.items o.marks.items kept.stands p c.index.result.now lt c.index.ensures in
    let gone : is_in (docs_of f d) m.d ≡ false = ap (λ ps. is_in (docs_at f.pool ps) m.d) untaken ∙ m.is ∙ c.if-index.false in
    let out = gone in
    let asks : Asks f (docs_of f d) m.d (Some rule) (docs_of f e) = subst (λ o. Asks f (docs_of f d) m.d o (docs_of f e)) c.in-Some.is (c.in_ok-found.ensures.asks m.d m.at) in
    let stays : e.places.items ≡ d.places.items =
    subst (λ o. MatchOption o (length d.places.items < length e.places.items) (λ broken. e.places.items ≡ d.places.items)) c.in-Some.is c.in_ok-found.ensures.grows in
    let named = c.hash_at.ensures m.d (subst (λ x. slice_get x.pool p ≡ Some m.d) (sym c.self.view_is) m.at) in
    let left = c.loop-place.left.items ++ (c.hash_at.result, rule) ∷ [] in
    record {
      stands = c.in_ok-found.ensures.stands;
      passes = passes_asked f p (docs_of f c.args.draft.now) (docs_of f d) (docs_of f e) m.d (Some rule) m.at out asks passed;
      grows = omega (arith, ap length stays, grown);
      same = λ short. stays ∙ sames (omega (arith, ap length stays, short));
      leaves = λ short.
          subst (λ l. LeavesOn f (p + 1) (docs_of f e) l) (sym c.in_ok-push_left-in-Some.ensures)
          (subst (λ ps. LeavesOn f (p + 1) (docs_at f.pool ps) left) (sym stays)
          (leaves_one f p (docs_of f d) (docs_of f e) c.loop-place.left.items m.d c.hash_at.result rule m.at out asks named (leaving (omega (arith, ap length stays, short)))));
    }

pub returns-clause-leaves : goal.returns-clause-leaves
returns-clause-leaves g c short =
    let f = c.args.self.now in
    let d = c.loop-place.draft in
    leaves_all f c.loop-place.place (docs_of f d) c.loop-place.left.items (omega (arith, c.loop-place-test.false, c.held.ensures, ap (λ x. length x.pool) c.self.view_is)) (c.loop-place.invariant.leaves short)
