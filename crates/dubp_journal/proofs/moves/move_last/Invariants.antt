use Rattle.std.proofs.Common.{◌≡◌, ◌+◌, ◌-◌, ◌++◌, length, take, drop}
use Rattle.std.specs.VecDeque.{deque_capacity}
use Rattle.dubp_journal.specs.Journal.{undo, redo_of}
use Rattle.dubp_journal.proofs.moves.move_last.Given as goal

abbrev pub invariant-loop-done : goal.invariant-loop-done
invariant-loop-done g l =
    let j = l.fn.from.items in
    record {
      from : l.from.items ≡ take (length j - l._done) j;
      to : l.to.items ≡ l.fn.to.items ++ redo_of l.fn.slots (drop (length j - l._done) j);
      to_len : length l.to.items ≡ length l.fn.to.items + l._done;
      slots : l.slots ≡ undo l.fn.slots (drop (length j - l._done) j);
      from_capacity : deque_capacity l.from ≡ deque_capacity l.fn.from;
      to_capacity : deque_capacity l.to ≡ deque_capacity l.fn.to;
      steps : l.steps ≡ l.fn.steps + l._done;
    }
