use Rattle.std.proofs.Common.{◌∙◌, Some, refl, subst}
use Rattle.dubp_undo.specs.MovingTable.{get}
use Rattle.dubp_cindex.specs.Orders.{place_cmp}
use Rattle.dubp_cindex.specs.Putting.{IsGreatestBesides}
use Rattle.dubp_cindex.proofs.Greatest.{greatest-none, greatest-more, greatest-all}
use Rattle.dubp_cindex.proofs.Left.{other_of, other-behind, walk-falls}
use Rattle.dubp_cindex.proofs.putting.greatest_besides.Goals as goal

pub loop-other-init : goal.loop-other-init
loop-other-init c = rw c.walk_from-walk.ensures (record { over = refl; from = refl; greatest = greatest-none c.args.rows.now.table.now c.args.from.now c.args.to.now c.args.least })

pub loop-other-smaller : goal.loop-other-smaller
loop-other-smaller c =
    let w = c.loop-other.walk in
    let n = c.next_in.new.walk in
    walk-falls w.map n.map c.args.from.now w.from n.from _ _ c.next_in.ensures.map c.in-Some.ensures.from (c.in-Some.ensures.follows (other_of w.from) c.loop-other.invariant.from)

pub loop-other-preserved : goal.loop-other-preserved
loop-other-preserved c =
    let before = c.loop-other.invariant in
    let w = c.loop-other.walk in
    let n = c.next_in.new.walk in
    record {
      over = c.next_in.ensures.map ∙ before.over;
      from = other-behind c.args.from.now _ n.from c.in-Some.ensures.from;
      greatest =
          rw (c.next_in.ensures.map, c.in-Some.ensures.from)
          (greatest-more w.map c.args.from.now c.args.to.now c.args.least (other_of w.from) c.loop-other.best c.higher-best.result _ _ (c.in-Some.ensures.follows (other_of w.from) before.from) before.greatest c.higher-best.ensures);
    }

pub returns : goal.returns
returns c =
    let before = c.loop-other.invariant in
    let w = c.loop-other.walk in
    subst (λ m. IsGreatestBesides (λ y. get place_cmp m (c.args.from.now, Some y)) c.args.to.now c.args.least c.loop-other.best) before.over
    (greatest-all w.map c.args.from.now c.args.to.now c.args.least (other_of w.from) c.loop-other.best (c.in_default.ensures.follows (other_of w.from) before.from) before.greatest)
