use Rattle.std.specs.HashMap.{get}
use Rattle.dubp_atoms.specs.Same.{same_stamp}
use Rattle.dubp_resolve.specs.Known.{seen}
use Rattle.dubp_resolve.proofs.Sorted.{AreInOrder, AreKnown}
use Rattle.dubp_resolve.proofs.standing.find_heights.Given as goal

abbrev pub invariant-loop-block : goal.invariant-loop-block
invariant-loop-block l = record {
  order : AreInOrder l.view.offers.items l.block-items;
  known : AreKnown (seen l.view) l.block-items l.block-index (get same_stamp l.heights);
}
