use Rattle.std.proofs.Common.{◌∙◌, ◌++◌, ◌∷◌, [], Option, ap, refl, subst, sym}
use Rattle.std.proofs.lemmas.List.{append-nil}
use Rattle.std.specs.List.{Contains}
use Rattle.std.specs.FinMap.{empty, entries}
use Rattle.dubp_atoms.specs.Same.{Text}
use Rattle.dubp_undo.specs.States.{newest}
use Rattle.dubp_undo.specs.MovingTable.{get}
use Rattle.dubp_cindex.specs.Orders.{place_cmp, AreNextIssuers}
use Rattle.dubp_cindex.specs.Rows.{Entry, live_pairs, live_to}
use Rattle.dubp_cindex.proofs.Left.{other_of, other-behind, walk-falls}
use Rattle.dubp_cindex.proofs.Walked.{up_to}
use Rattle.dubp_cindex.proofs.Told.{received-next, received-end, received-none, told-none, told-more, told-all, next-some, next-none, begins-more, next-more, next-all}
use Rattle.dubp_cindex.proofs.index.CIndex.put_issuers.Goals as goal

pub loop-from-init : goal.loop-from-init
loop-from-init c =
    rw c.walk_from-walk.ensures (record {
      over = refl;
      from = refl;
      put = λ s by. told-none (λ (e : Entry). e.0.0) c.args.issuers.now.items _ (received-none (newest empty s) c.args.to.now);
      begins = ([], sym (append-nil c.args.issuers.now.items), λ s by rest next. next);
    })

pub loop-from-smaller : goal.loop-from-smaller
loop-from-smaller c =
    let w = c.loop-from.walk in
    let n = c.next_in.new.walk in
    walk-falls w.map n.map c.args.to.now w.from n.from _ _ c.next_in.ensures.map c.in-Some.ensures.from (c.in-Some.ensures.follows (other_of w.from) c.loop-from.invariant.from)

pub loop-from-preserved : goal.loop-from-preserved
loop-from-preserved c =
    let before = c.loop-from.invariant in
    let w = c.loop-from.walk in
    let n = c.next_in.new.walk in
    record {
      over = c.next_in.ensures.map ∙ before.over;
      from = other-behind c.args.to.now _ n.from c.in-Some.ensures.from;
      put = λ s by.
          let next = received-next (newest empty s) c.args.to.now w.map (λ k. ap (λ m. get place_cmp m k) before.over ∙ by k) (other_of w.from) _ (c.in-Some.ensures.follows (other_of w.from) before.from) in
          told-more (λ (e : Entry). e.0.0) c.args.issuers.now.items c.loop-from.issuers.items c.put.new.keys.items _ _ _ (before.put s by)
          c.in_ok-put.ensures.put
          (ap (λ (o : Option Text). up_to (live_to c.args.to.now) (λ (e : Entry). e.0.0) o (entries (newest empty s))) (ap other_of c.in-Some.ensures.from) ∙ next.2);
      begins = (
        before.begins.0 ++ _ ∷ [],
        begins-more c.args.issuers.now.items c.loop-from.issuers.items c.put.new.keys.items before.begins.0 _ c.in_ok-put.ensures.put before.begins.1,
        λ s by rest more.
            next-more (λ (a : Text). Contains (live_pairs (newest empty s)) (a, c.args.to.now)) (other_of w.from) before.begins.0 _
            (next-some (newest empty s) c.args.to.now w.map (λ k. ap (λ m. get place_cmp m k) before.over ∙ by k) (other_of w.from) _ (c.in-Some.ensures.follows (other_of w.from) before.from))
            (before.begins.2 s by) rest
            (subst (λ (o : Option Text). AreNextIssuers (live_pairs (newest empty s)) c.args.to.now o rest) (ap other_of c.in-Some.ensures.from) more),
      );
    }

pub returns-clause-next : goal.returns-clause-next
returns-clause-next c = λ s keys a put.
    let before = c.loop-from.invariant in
    let w = c.loop-from.walk in
    next-all (λ (x : Text). Contains (live_pairs (newest empty s)) (x, c.args.to.now)) (other_of w.from) before.begins.0 c.args.issuers.now.items c.loop-from.issuers.items keys
    (next-none (newest empty s) c.args.to.now w.map (λ k. ap (λ m. get place_cmp m k) before.over ∙ a.1.0 k) (other_of w.from) (c.in_default.ensures.follows (other_of w.from) before.from))
    (before.begins.2 s a.1.0) before.begins.1 put

pub returns-clause-put : goal.returns-clause-put
returns-clause-put c = λ s a.
    let before = c.loop-from.invariant in
    let w = c.loop-from.walk in
    told-all (λ (e : Entry). e.0.0) c.args.issuers.now.items c.loop-from.issuers.items _ _ (before.put s a.1.0)
    (received-end (newest empty s) c.args.to.now w.map (λ k. ap (λ m. get place_cmp m k) before.over ∙ a.1.0 k) (other_of w.from) (c.in_default.ensures.follows (other_of w.from) before.from))
