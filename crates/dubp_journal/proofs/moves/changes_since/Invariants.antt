use Rattle.std.proofs.Common.{◌≡◌}
use Rattle.dubp_journal.specs.Journal.{last_changes}
use Rattle.dubp_journal.proofs.moves.changes_since.Given as goal

abbrev pub invariant-loop-done : goal.invariant-loop-done
invariant-loop-done l = l.changes ≡ last_changes l.marks.items l.done
