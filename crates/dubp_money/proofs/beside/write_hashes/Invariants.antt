use Rattle.std.proofs.Common.{◌≡◌, ◌≤◌, ◌+◌, take}
use Rattle.std.specs.Cmp.Lexicographic.{slice_cmp}
use Rattle.std.specs.Ordering.{nat_cmp}
use Rattle.dubp_atoms.specs.Same.{Text}
use Rattle.dubp_undo.specs.MovingTable.{get}
use Rattle.dubp_undo.specs.Turned.{others_of, count_of}
use Rattle.dubp_money.proofs.Noting.{wholes, noted}
use Rattle.dubp_money.proofs.beside.write_hashes.Given as goal

abbrev pub invariant-loop-hash : goal.invariant-loop-hash
invariant-loop-hash g l = record {
  now : (k : Text) → get (slice_cmp nat_cmp) l.table.table.now k ≡ noted (wholes (take l.hash-index l.hashes)) k (get (slice_cmp nat_cmp) l.fn.table.table.now k);
  steps : l.steps ≤ l.fn.steps + l.hash-index;
  others : others_of l.table.table ≡ others_of l.fn.table.table;
  count : count_of l.table.table + l.initial.steps ≤ count_of l.fn.table.table + l.steps;
}
