use Rattle.std.proofs.Common.{◌≡◌, drop, None}
use Rattle.dubp_resolve.specs.Choice.{best_of}
use Rattle.dubp_resolve.specs.Known.{seen}
use Rattle.dubp_resolve.proofs.choosing.best.Given as goal

abbrev pub invariant-loop-block : goal.invariant-loop-block
invariant-loop-block l = best_of (seen l.view) None l.view.offers.items ≡ best_of (seen l.view) l.best (drop l.block-index l.view.offers.items)
