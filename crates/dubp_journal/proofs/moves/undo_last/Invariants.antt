use Rattle.std.proofs.Common.{◌≡◌, ◌+◌, ◌-◌, length, take, drop}
use Rattle.std.specs.VecDeque.{deque_capacity}
use Rattle.dubp_journal.specs.Journal.{Follows, undo}
use Rattle.dubp_journal.proofs.moves.undo_last.Given as goal

abbrev pub invariant-loop-done : goal.invariant-loop-done
invariant-loop-done g l =
    let j = l.fn.journal.items in
    record {
      journal : l.journal.items ≡ take (length j - l._done) j;
      slots : l.slots ≡ undo l.fn.slots (drop (length j - l._done) j);
      uses : Follows l.fn.uses.items l.uses.items j l.journal.items;
      capacity : deque_capacity l.journal ≡ deque_capacity l.fn.journal;
      steps : l.steps ≡ l.fn.steps + l._done;
    }
