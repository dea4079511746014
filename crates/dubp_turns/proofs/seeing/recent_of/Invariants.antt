use Rattle.std.proofs.Common.{◌≡◌, ◌≤◌, ◌+◌, drop, map, reverse, take}
use Rattle.dubp_block.specs.Text.{stamp_of}
use Rattle.dubp_turns.proofs.seeing.recent_of.Given as goal

abbrev pub invariant-loop-count : goal.invariant-loop-count
invariant-loop-count g l = record {
  within : l.count ≤ l.ledger.kept;
  items : l.recent.items ≡ reverse (drop l.count (take (l.ledger.kept + 1) (map stamp_of l.ledger.chain)));
}

abbrev pub decreases-loop-count : goal.decreases-loop-count
decreases-loop-count g l = l.count
