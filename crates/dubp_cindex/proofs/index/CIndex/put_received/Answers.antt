use Rattle.std.proofs.Common.{◌∙◌, Option, ap, refl}
use Rattle.std.specs.FinMap.{empty, entries}
use Rattle.dubp_atoms.specs.Same.{Text}
use Rattle.dubp_undo.specs.States.{newest}
use Rattle.dubp_undo.specs.MovingTable.{get}
use Rattle.dubp_cindex.specs.Orders.{place_cmp}
use Rattle.dubp_cindex.specs.Rows.{Entry, live_to, told}
use Rattle.dubp_cindex.proofs.Left.{other_of, other-behind, walk-falls}
use Rattle.dubp_cindex.proofs.Walked.{up_to}
use Rattle.dubp_cindex.proofs.Told.{received-next, received-end, received-none, received-row, told-none, told-more, told-all}
use Rattle.dubp_cindex.proofs.index.CIndex.put_received.Goals as goal

pub loop-from-init : goal.loop-from-init
loop-from-init c = rw c.walk_from-walk.ensures (record { over = refl; from = refl; told = λ s rows by. told-none told c.args.found.now.items _ (received-none (newest empty s) c.args.key.now) })

pub loop-from-smaller : goal.loop-from-smaller
loop-from-smaller c =
    let w = c.loop-from.walk in
    let n = c.next_in.new.walk in
    walk-falls w.map n.map c.args.key.now w.from n.from _ _ c.next_in.ensures.map c.in-Some.ensures.from (c.in-Some.ensures.follows (other_of w.from) c.loop-from.invariant.from)

pub loop-from-preserved : goal.loop-from-preserved
loop-from-preserved c =
    let before = c.loop-from.invariant in
    let w = c.loop-from.walk in
    let n = c.next_in.new.walk in
    record {
      over = c.next_in.ensures.map ∙ before.over;
      from = other-behind c.args.key.now _ n.from c.in-Some.ensures.from;
      told = λ s rows by.
          let next = received-next (newest empty s) c.args.key.now w.map (λ k. ap (λ m. get place_cmp m k) before.over ∙ by k) (other_of w.from) _ (c.in-Some.ensures.follows (other_of w.from) before.from) in
          told-more told c.args.found.now.items c.loop-from.found.items c.put_told.new.found.items _ _ _ (before.told s rows by)
          (c.in_ok-put_told.ensures next.0 (received-row (newest empty s) c.args.key.now c.args.self.now.tables.first.table.now rows _ _ next.1))
          (ap (λ (o : Option Text). up_to (live_to c.args.key.now) (λ (e : Entry). e.0.0) o (entries (newest empty s))) (ap other_of c.in-Some.ensures.from) ∙ next.2);
    }

pub returns : goal.returns
returns c = λ s a.
    let before = c.loop-from.invariant in
    let w = c.loop-from.walk in
    told-all told c.args.found.now.items c.loop-from.found.items _ _ (before.told s a.0 a.1.0)
    (received-end (newest empty s) c.args.key.now w.map (λ k. ap (λ m. get place_cmp m k) before.over ∙ a.1.0 k) (other_of w.from) (c.in_default.ensures.follows (other_of w.from) before.from))
