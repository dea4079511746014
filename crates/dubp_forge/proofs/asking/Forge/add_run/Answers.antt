use Rattle.std.proofs.Common.{◌≡◌, ◌∷◌, ◌++◌, [], Some, ◌∙◌, ap, append-nil, append_assoc, arith, false, length, subst, sym, true}
use Rattle.std.specs.List.{slice_get}
use Rattle.std.proofs.lemmas.List.{length-map}
use Rattle.dubp_pool.specs.Pools.{AreApart, ArePending}
use Rattle.dubp_forging.specs.Forged.{is_in}
use Rattle.dubp_forge.specs.Runs.{run_of}
use Rattle.dubp_forge.specs.Steps.{Stands, docs_of}
use Rattle.dubp_forge.proofs.Marks.{mark_at}
use Rattle.dubp_forge.proofs.Places.{docs_at-push}
use Rattle.dubp_forge.proofs.RunSteps.{in_run, marked_at, run_grows, run_none, run_past, there_at}
use Rattle.dubp_forge.proofs.asking.Forge.add_run.Goals as goal

pub loop-next-init : goal.loop-next-init
loop-next-init g c =
    let f = c.args.self.now in
    let docs = docs_of f c.args.draft.now in
    record {
      stands = c.requires.stands;
      docs = sym (ap (λ r. docs ++ r) (run_none docs f.pool c.args.place) ∙ append-nil docs);
      grows = record { more = []; is = sym (append-nil c.args.draft.now.places.items) };
    }

pub index-requires : goal.index-requires
index-requires g c =
    let f = c.args.self.now in
    let now = c.loop-next.draft in
    omega (arith, ap length c.loop-next.invariant.stands.marked, length-map f.pool (is_in (docs_of f now)), c.loop-next-test.true, c.requires.within)

pub loop-next-preserved-then-index : goal.loop-next-preserved-then-index
loop-next-preserved-then-index g c =
    let f = c.args.self.now in
    let n = c.loop-next.next in
    let inv = c.loop-next.invariant in
    let docs = docs_of f c.args.draft.now in
    let apart : AreApart f.pool = (subst (λ x. ArePending x.pool) c.self.view_is c.laws.ensures).apart in
    let there = there_at f.pool n (omega (arith, c.loop-next-test.true, c.requires.within)) in
    let marked : is_in (docs_of f c.loop-next.draft) there.0 ≡ true = marked_at (docs_of f c.loop-next.draft) f.pool c.loop-next.draft.marks.items n there.0 c.index.result.now inv.stands.marked there.1 c.index.ensures ∙ c.if-index.true in
    let in' : is_in docs there.0 ≡ true = sym (in_run docs f.pool apart c.args.place n c.loop-next.auto.next there.0 there.1) ∙ ap (λ l. is_in l there.0) (sym inv.docs) ∙ marked in
    record {
      stands = inv.stands;
      docs = inv.docs ∙ ap (λ r. docs ++ r) (sym (run_past docs f.pool apart c.args.place n c.loop-next.auto.next there.0 there.1 in'));
      grows = inv.grows;
    }

pub add-requires-clause-stands : goal.add-requires-clause-stands
add-requires-clause-stands g c = c.loop-next.invariant.stands

pub add-requires-clause-free : goal.add-requires-clause-free
add-requires-clause-free g c =
    let f = c.args.self.now in
    let n = c.loop-next.next in
    let now = c.loop-next.draft in
    let stands = c.loop-next.invariant.stands in
    let there = there_at f.pool n (omega (arith, c.loop-next-test.true, c.requires.within)) in
    ap (λ m. slice_get m n) stands.marked ∙ mark_at (docs_of f now) f.pool n there.0 there.1
    ∙ ap Some (marked_at (docs_of f now) f.pool now.marks.items n there.0 c.index.result.now stands.marked there.1 c.index.ensures ∙ c.if-index.false)

pub loop-next-preserved : goal.loop-next-preserved
loop-next-preserved g c =
    let f = c.args.self.now in
    let n = c.loop-next.next in
    let inv = c.loop-next.invariant in
    let docs = docs_of f c.args.draft.now in
    let apart : AreApart f.pool = (subst (λ x. ArePending x.pool) c.self.view_is c.laws.ensures).apart in
    let there = there_at f.pool n (omega (arith, c.loop-next-test.true, c.requires.within)) in
    let marked : is_in (docs_of f c.loop-next.draft) there.0 ≡ false = marked_at (docs_of f c.loop-next.draft) f.pool c.loop-next.draft.marks.items n there.0 c.index.result.now inv.stands.marked there.1 c.index.ensures ∙ c.if-index.false in
    let out : is_in docs there.0 ≡ false = sym (in_run docs f.pool apart c.args.place n c.loop-next.auto.next there.0 there.1) ∙ ap (λ l. is_in l there.0) (sym inv.docs) ∙ marked in
    record {
      stands = c.in_ok-add.ensures.stands;
      docs =
          ap (λ ps. Rattle.dubp_forge.specs.Steps.docs_at f.pool ps) c.in_ok-add.ensures.places ∙ docs_at-push f.pool c.loop-next.draft.places.items n there.0 there.1
          ∙ ap (λ l. l ++ there.0 ∷ []) inv.docs ∙ append_assoc docs (run_of f c.args.draft.now c.args.place n) (there.0 ∷ [])
          ∙ ap (λ r. docs ++ r) (sym (run_grows docs f.pool apart c.args.place n c.loop-next.auto.next there.0 there.1 out));
      grows = record {
        more = inv.grows.more ++ n ∷ [];
        is = c.in_ok-add.ensures.places ∙ ap (λ ps. ps ++ n ∷ []) inv.grows.is ∙ append_assoc c.args.draft.now.places.items inv.grows.more (n ∷ []);
      };
    }

pub returns-clause-stands : goal.returns-clause-stands
returns-clause-stands g c = c.loop-next.invariant.stands

pub returns-clause-docs : goal.returns-clause-docs
returns-clause-docs g c =
    let f = c.args.self.now in
    let last : c.loop-next.next ≡ c.args.end = omega (arith, c.loop-next-test.false, c.loop-next.auto.next-end, c.requires.behind) in
    subst (λ e. docs_of f c.loop-next.draft ≡ docs_of f c.args.draft.now ++ run_of f c.args.draft.now c.args.place e) last c.loop-next.invariant.docs

pub returns-clause-grows : goal.returns-clause-grows
returns-clause-grows g c = c.loop-next.invariant.grows
