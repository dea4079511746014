use Rattle.std.proofs.Common.{◌≡◌, List, length, take}
use Rattle.dubp_atoms.specs.Same.{Text}
use Rattle.dubp_wot.specs.Known.{KnowIssuers, members_among}
use Rattle.dubp_wot.specs.Numbers.{named, AreBelow, Keeps}
use Rattle.dubp_wot.proofs.known.KnownIssuers.number_members.Given as goal

abbrev pub invariant-loop-key : goal.invariant-loop-key
invariant-loop-key g l = record {
  kept : Keeps l.initial.self.keys l.self.keys;
  known : (members : List Text) (pairs : List (Text × Text)) → g.W.Web.shows l.web members pairs → KnowIssuers members pairs l.self;
  within : AreBelow (length l.self.keys) l.numbers.items;
  among : (members : List Text) (pairs : List (Text × Text)) → g.W.Web.shows l.web members pairs
      → named l.self.keys l.numbers.items ≡ members_among members (take l.key-index l.keys);
}
