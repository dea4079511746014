use Rattle.std.proofs.Common.{◌≡◌, arith, length, ap, sym, ◌∙◌, cond, Some, subst}
use Rattle.std.specs.Map.{lookup}
use Rattle.std.specs.HashMap.{get}
use Rattle.std.proofs.lemmas.List.Sorted.{All-permutation}
use Rattle.dubp_atoms.specs.Same.{same_stamp}
use Rattle.dubp_resolve.specs.Known.{seen, IsFound, IsNumbered}
use Rattle.dubp_resolve.proofs.Sorted.{AreKnown, in_order, known_start, known_all, known_before, known_more, within}
use Rattle.dubp_resolve.proofs.standing.find_heights.Goals as goal

pub height-height-requires-clause-found : goal.height-height-requires-clause-found
height-height-requires-clause-found c =
    subst (IsFound c.args.view.now.offers.items) (sym c.block-item.is)
    (All-permutation (IsFound c.args.view.now.offers.items) _ _ c.loop-block.invariant.order.same c.requires.apart c.loop-block.block-index c.block-item.result c.loop-block-test.true)

pub height-height-requires-clause-numbered : goal.height-height-requires-clause-numbered
height-height-requires-clause-numbered c =
    subst IsNumbered (sym c.block-item.is) (All-permutation IsNumbered _ _ c.loop-block.invariant.order.same c.requires.numbered c.loop-block.block-index c.block-item.result c.loop-block-test.true)

pub height-height-requires-clause-before : goal.height-height-requires-clause-before
height-height-requires-clause-before c =
    let blocks = c.deref-block-items.result.now in
    known_before (seen c.args.view.now) blocks c.loop-block.invariant.order (get same_stamp c.loop-block.heights) c.loop-block.block-index c.block-item.result
    (λ d. c.block-item.is ∙ within blocks c.loop-block.block-index c.loop-block-test.true c.block-item.result d) c.loop-block.invariant.known
    (subst IsNumbered (sym c.block-item.is) (All-permutation IsNumbered _ _ c.loop-block.invariant.order.same c.requires.numbered c.loop-block.block-index c.block-item.result c.loop-block-test.true))

pub loop-block-init : goal.loop-block-init
loop-block-init c = record {
  order = in_order _ _ _ _ c.deref-3.ensures.value c.deref-block-items.ensures.value c.in_ok-blocks.ensures.permutation c.in_ok-blocks.ensures.ascending;
  known = known_start _ _ _ (λ s. ap (lookup (same_stamp s)) c.with_hasher-heights.ensures.empty);
}

pub loop-block-preserved : goal.loop-block-preserved
loop-block-preserved c =
    let blocks = c.deref-block-items.result.now in
    let b = c.block-item.result in
    record {
      order = c.loop-block.invariant.order;
      known =
          known_more (seen c.args.view.now) blocks c.loop-block.invariant.order (get same_stamp c.loop-block.heights) c.loop-block.block-index b
          (λ d. c.block-item.is ∙ within blocks c.loop-block.block-index c.loop-block-test.true b d) c.loop-block.invariant.known
          (subst (IsFound c.args.view.now.offers.items) (sym c.block-item.is)
          (All-permutation (IsFound c.args.view.now.offers.items) _ _ c.loop-block.invariant.order.same c.requires.apart c.loop-block.block-index b c.loop-block-test.true))
          (get same_stamp c.note.new.heights)
          (λ s. c.in_ok-note.ensures s ∙ ap (λ h. cond (same_stamp s b.stamp) (Some h) (get same_stamp c.loop-block.heights s)) c.height-height.ensures);
    }

pub returns : goal.returns
returns c =
    let end : c.loop-block.block-index ≡ length c.deref-block-items.result.now = omega arith in
    known_all (seen c.args.view.now) c.deref-block-items.result.now c.loop-block.invariant.order (get same_stamp c.loop-block.heights)
    (subst (λ i. AreKnown (seen c.args.view.now) c.deref-block-items.result.now i (get same_stamp c.loop-block.heights)) end c.loop-block.invariant.known)
