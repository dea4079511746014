use Rattle.std.proofs.Common.{◌≡◌, ◌++◌, take}
use Rattle.dubp_turns.specs.Texts.{failed_lines}
use Rattle.dubp_turns.proofs.texts.add_failures.Given as goal

abbrev pub invariant-loop-failure : goal.invariant-loop-failure
invariant-loop-failure l = l.text.items ≡ l.fn.text.items ++ failed_lines (take l.failure-index l.failures)
