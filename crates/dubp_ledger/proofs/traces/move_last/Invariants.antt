use Rattle.std.proofs.Common.{◌≡◌, ◌+◌, ◌≤◌, ◌++◌, drop, take, reverse, vec_len, vec_capacity}
use Rattle.dubp_ledger.proofs.traces.move_last.Given as goal

abbrev pub invariant-loop-i : goal.invariant-loop-i
invariant-loop-i l = record {
  from : reverse l.from.items ≡ drop l.i (reverse l.fn.from.items);
  to : l.to.items ≡ l.fn.to.items ++ take l.i (reverse l.fn.from.items);
  left : l.count ≤ vec_len l.from + l.i;
  room : vec_len l.to + l.count ≤ vec_capacity l.to + l.i;
  from_capacity : vec_capacity l.from ≡ vec_capacity l.fn.from;
  to_capacity : vec_capacity l.to ≡ vec_capacity l.fn.to;
}
