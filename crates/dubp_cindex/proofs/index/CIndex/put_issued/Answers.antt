use Rattle.std.proofs.Common.{◌∙◌, ◌++◌, Option, ap, map, refl, sym}
use Rattle.std.specs.FinMap.{empty, entries}
use Rattle.dubp_atoms.specs.Same.{Text}
use Rattle.dubp_undo.specs.States.{newest}
use Rattle.dubp_undo.specs.MovingTable.{get}
use Rattle.dubp_cindex.specs.Orders.{place_cmp}
use Rattle.dubp_cindex.specs.Rows.{Entry, live_from, told}
use Rattle.dubp_cindex.proofs.Left.{other_of, other-behind, walk-falls}
use Rattle.dubp_cindex.proofs.Walked.{up_to}
use Rattle.dubp_cindex.proofs.Told.{issued-more, issued-end, issued-none, told-none, told-all}
use Rattle.dubp_cindex.proofs.index.CIndex.put_issued.Goals as goal

pub loop-to-init : goal.loop-to-init
loop-to-init c = rw c.walk_from-walk.ensures (record { over = refl; from = refl; told = λ s rows. told-none told c.args.found.now.items _ (issued-none (newest empty s) c.args.key.now) })

pub loop-to-smaller : goal.loop-to-smaller
loop-to-smaller c =
    let w = c.loop-to.walk in
    let n = c.next_in.new.walk in
    walk-falls w.map n.map c.args.key.now w.from n.from _ _ c.next_in.ensures.map c.in-Some.ensures.from (c.in-Some.ensures.follows (other_of w.from) c.loop-to.invariant.from)

pub loop-to-preserved : goal.loop-to-preserved
loop-to-preserved c =
    let before = c.loop-to.invariant in
    let w = c.loop-to.walk in
    let n = c.next_in.new.walk in
    let key = c.args.key.now in
    record {
      over = c.next_in.ensures.map ∙ before.over;
      from = other-behind key _ n.from c.in-Some.ensures.from;
      told = λ s rows.
          let state = newest empty s in
          let behind = ap (λ (o : Option Text). up_to (live_from key) (λ (e : Entry). e.0.1) o (entries state)) (ap other_of c.in-Some.ensures.from) in
          issued-more state key w.map (λ k. ap (λ m. get place_cmp m k) before.over ∙ rows k) (other_of w.from) _ _ c.args.found.now.items c.loop-to.found.items c.put_live.new.found.items
          (c.in-Some.ensures.follows (other_of w.from) before.from) c.in_ok-put_live.ensures.live c.in_ok-put_live.ensures.ended (before.told s rows)
          ∙ ap (λ es. c.args.found.now.items ++ map told es) (sym behind);
    }

pub returns : goal.returns
returns c = λ s a.
    let before = c.loop-to.invariant in
    let w = c.loop-to.walk in
    told-all told c.args.found.now.items c.loop-to.found.items _ _ (before.told s a.0)
    (issued-end (newest empty s) c.args.key.now w.map (λ k. ap (λ m. get place_cmp m k) before.over ∙ a.0 k) (other_of w.from) (c.in_default.ensures.follows (other_of w.from) before.from))
