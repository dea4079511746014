use Rattle.std.proofs.Common.{◌≡◌, length}
use Rattle.dubp_lines.specs.Taking.{line_at, next_passes, same_line}
use Rattle.dubp_lines.specs.Readers.{entries}
use Rattle.dubp_lines.proofs.Loops.{behind}
use Rattle.dubp_block.proofs.sections.take_section.Given as goal

abbrev pub invariant-entries : goal.invariant-entries
invariant-entries g l =
    entries (next_passes (same_line l.next)) (line_at g.R.ReadRow.reads) l.initial.lines
    ≡ behind l.taken.items (entries (next_passes (same_line l.next)) (line_at g.R.ReadRow.reads) l.lines)

abbrev pub decreases-entries : goal.decreases-entries
decreases-entries g l = length l.lines.0
