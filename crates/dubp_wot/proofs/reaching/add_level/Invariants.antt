use Rattle.std.proofs.Common.{◌≡◌, ℕ, ◌≤◌, List, length}
use Rattle.dubp_atoms.specs.Same.{Text}
use Rattle.dubp_wot.specs.Known.{KnowIssuers}
use Rattle.dubp_wot.specs.Numbers.{named, AreBelow, Keeps}
use Rattle.dubp_wot.specs.Search.{Grows, Closed, In}
use Rattle.dubp_wot.specs.Sought.{missing}
use Rattle.dubp_wot.proofs.reaching.add_level.Given as goal

abbrev pub invariant-loop-i : goal.invariant-loop-i
invariant-loop-i g l = record {
  known : (members : List Text) (pairs : List (Text × Text)) → g.W.Web.shows l.web members pairs → KnowIssuers members pairs l.known;
  kept : Keeps l.initial.known.keys l.known.keys;
  within : AreBelow (length l.known.keys) l.found;
  counted : l.left ≡ missing l.sought.numbers l.found;
  longer : length l.initial.found ≤ length l.found;
  keeps : (n : ℕ) → In l.initial.found n → In l.found n;
  grows : (members : List Text) (pairs : List (Text × Text)) → g.W.Web.shows l.web members pairs
      → Grows members pairs (In (named l.initial.known.keys l.initial.found)) (named l.initial.known.keys l.initial.found) (named l.known.keys l.found);
  closed : (members : List Text) (pairs : List (Text × Text)) → g.W.Web.shows l.web members pairs
      → Closed members pairs l.start (named l.initial.known.keys l.initial.found) → Closed members pairs l.i (named l.known.keys l.found);
}
