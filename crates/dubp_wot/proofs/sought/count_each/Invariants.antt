use Rattle.std.proofs.Common.{◌≡◌, ℕ, nat_eq, length, get_or, take}
use Rattle.std.specs.Prelude.{count_by}
use Rattle.dubp_wot.proofs.sought.count_each.Given as goal

abbrev pub invariant-loop-number : goal.invariant-loop-number
invariant-loop-number l = record {
  length : length l.counts.items ≡ l.size;
  counts : (m : ℕ) → get_or l.counts.items m 0 ≡ count_by (nat_eq m) (take l.number-index l.numbers);
}
