use Rattle.std.proofs.Common.{◌≡◌, ℕ, ◌<◌, List, [], ◌∷◌, Some, length, slice_get}
use Rattle.dubp_atoms.specs.Same.{Text}
use Rattle.dubp_atoms.specs.Walks.{Reaches}
use Rattle.dubp_wot.specs.Known.{KnowIssuers}
use Rattle.dubp_wot.specs.Numbers.{named, AreBelow, Keeps}
use Rattle.dubp_wot.specs.Search.{Closed, In, Level}
use Rattle.dubp_wot.specs.Sought.{missing}
use Rattle.dubp_wot.proofs.reaching.count_reaching.Given as goal

abbrev pub invariant-loop-level : goal.invariant-loop-level
invariant-loop-level g l = record {
  known : (members : List Text) (pairs : List (Text × Text)) → g.W.Web.shows l.web members pairs → KnowIssuers members pairs l.known;
  kept : Keeps l.initial.known.keys l.known.keys;
  within : AreBelow (length l.known.keys) l.found;
  counted : l.left ≡ missing l.sought.numbers l.found;
  first : (n : ℕ) × In l.found n × (slice_get l.known.keys n ≡ Some l.fn.target) × (l.others ≡ missing l.sought.numbers (n ∷ []));
  sound : (members : List Text) (pairs : List (Text × Text)) → g.W.Web.shows l.web members pairs
      → (a : Text) → In (named l.known.keys l.found) a → Reaches members pairs l.level a l.fn.target;
  closed : (members : List Text) (pairs : List (Text × Text)) → g.W.Web.shows l.web members pairs → 0 < l.left → Closed members pairs l.start (named l.known.keys l.found);
  level : (members : List Text) (pairs : List (Text × Text)) → g.W.Web.shows l.web members pairs → 0 < l.left
      → Level members pairs l.fn.target l.level (named l.known.keys l.found);
}
