use Rattle.std.proofs.Common.{◌≡◌, drop}
use Rattle.std.specs.VecDeque.{deque_capacity}
use Rattle.dubp_journal.specs.Journal.{Follows}
use Rattle.dubp_journal.proofs.moves.drop_first.Given as goal

abbrev pub invariant-loop-done : goal.invariant-loop-done
invariant-loop-done g l = record {
  items : l.journal.items ≡ drop l._done l.fn.journal.items;
  uses : Follows l.fn.uses.items l.uses.items l.fn.journal.items l.journal.items;
  capacity : deque_capacity l.journal ≡ deque_capacity l.fn.journal;
}
