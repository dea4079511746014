use Rattle.std.proofs.Common.{◌≡◌, ◌++◌, take}
use Rattle.dubp_forge.specs.Telling.{left_lines}
use Rattle.dubp_forge.proofs.answering.add_left.Given as goal

abbrev pub invariant-loop-entry : goal.invariant-loop-entry
invariant-loop-entry l = l.text.items ≡ l.fn.text.items ++ left_lines (take l.entry-index l.left)
