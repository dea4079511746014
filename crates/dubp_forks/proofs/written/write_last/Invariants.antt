use Rattle.std.proofs.Common.{◌≡◌, ◌≤◌, ◌-◌, ◌++◌, drop, length, reverse}
use Rattle.dubp_forks.specs.Entries.{entries_of}
use Rattle.dubp_forks.proofs.written.write_last.Given as goal

abbrev pub invariant-loop-number : goal.invariant-loop-number
invariant-loop-number g l = record {
  within : l.number ≤ length l.ledger.chain;
  written : l.last.items ++ entries_of (drop l.number (reverse l.ledger.chain)) ≡ entries_of (drop (length l.ledger.chain - l.count) (reverse l.ledger.chain));
}

abbrev pub decreases-loop-number : goal.decreases-loop-number
decreases-loop-number g l = length l.ledger.chain - l.number
