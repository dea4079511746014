use Rattle.std.proofs.Common.{◌≡◌, List}
use Rattle.dubp_atoms.specs.Same.{Text}
use Rattle.dubp_wot.specs.Search.{up_to}
use Rattle.dubp_wot.proofs.web.Web.members.Given as goal

abbrev pub invariant-members : goal.invariant-members
invariant-members g l =
    (members : List Text) (pairs : List (Text × Text)) → g.Self.Web.shows l.self members pairs → l.keys.items ≡ up_to l.after members
