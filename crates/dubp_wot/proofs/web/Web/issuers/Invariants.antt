use Rattle.std.proofs.Common.{◌++◌, List, None}
use Rattle.dubp_atoms.specs.Same.{Text}
use Rattle.dubp_wot.specs.Order.{AreNextIssuers}
use Rattle.dubp_wot.proofs.web.Web.issuers.Given as goal

abbrev pub invariant-issuers : goal.invariant-issuers
invariant-issuers g l =
    (members : List Text) (pairs : List (Text × Text)) → g.Self.Web.shows l.self members pairs → (rest : List Text) → AreNextIssuers pairs l.to l.after rest → AreNextIssuers pairs l.to None (l.keys.items ++ rest)
