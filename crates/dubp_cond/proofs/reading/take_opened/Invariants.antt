use Rattle.std.proofs.Common.{◌≤◌, length}
use Rattle.dubp_cond.proofs.Groups.{IsOpened}
use Rattle.dubp_cond.proofs.reading.take_opened.Given as goal

abbrev pub invariant-opened : goal.invariant-opened
invariant-opened l = record {
  so_far : IsOpened l.groups l.fn.cursor l.left l.cursor;
  within : l.left ≤ l.groups;
  shorter : length l.cursor ≤ length l.fn.cursor;
}

abbrev pub decreases-opened : goal.decreases-opened
decreases-opened l = l.left
