use Rattle.std.proofs.Common.{◌≡◌, List, filter, take}
use Rattle.dubp_atoms.specs.Same.{Text}
use Rattle.dubp_atoms.specs.Walks.{has_issued_and_received}
use Rattle.dubp_wot.proofs.sentry.sentries.Given as goal

abbrev pub invariant-loop-key : goal.invariant-loop-key
invariant-loop-key g l =
    (members : List Text) (pairs : List (Text × Text)) → g.W.Web.shows l.web members pairs
    → l.found.items ≡ filter (has_issued_and_received pairs l.least) (take l.key-index l.key-items)
