use Rattle.std.proofs.Common.{◌≡◌, ◌-◌}
use Rattle.dubp_lines.specs.Readers.{rows}
use Rattle.dubp_lines.proofs.Loops.{behind}
use Rattle.dubp_block.proofs.rows.take_rows.Given as goal

abbrev pub invariant-loop : goal.invariant-loop
invariant-loop g l = rows l.count g.R.ReadRow.reads l.initial.lines ≡ behind l.taken.items (rows (l.count - l.counter) g.R.ReadRow.reads l.lines)
