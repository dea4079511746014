use Rattle.std.proofs.Common.{◌≡◌, ℕ, ◌<◌, ◌≤◌, List, length, slice_index_or}
use Rattle.dubp_atoms.specs.Same.{Text}
use Rattle.dubp_wot.specs.Known.{AreIssuersOf}
use Rattle.dubp_wot.specs.Numbers.{named, AreBelow}
use Rattle.dubp_wot.specs.Search.{Grows, In}
use Rattle.dubp_wot.specs.Sought.{missing}
use Rattle.dubp_wot.proofs.reaching.add_issuers.Given as goal

abbrev pub invariant-loop-from : goal.invariant-loop-from
invariant-loop-from l = record {
  longer : length l.initial.found ≤ length l.found;
  within : (size : ℕ) → AreBelow size l.issuers → AreBelow size l.initial.found → AreBelow size l.found;
  counted : l.left ≡ missing l.sought.numbers l.found;
  keeps : (n : ℕ) → In l.initial.found n → In l.found n;
  grows : (members : List Text) (pairs : List (Text × Text)) (keys : List Text) (to : Text) → AreIssuersOf members pairs to (named keys l.issuers)
      → Grows members pairs (λ b. b ≡ to) (named keys l.initial.found) (named keys l.found);
  all : (a : ℕ) (k : ℕ) → k < l.from-index → slice_index_or l.issuers k a ≡ a → In l.found a;
}
