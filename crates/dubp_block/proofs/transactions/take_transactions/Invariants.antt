use Rattle.std.proofs.Common.{◌≡◌, length}
use Rattle.std.specs.Prelude.{not, codes}
use Rattle.dubp_lines.specs.Taking.{begins_with, next_passes}
use Rattle.dubp_lines.specs.Readers.{entries}
use Rattle.dubp_lines.proofs.Loops.{behind}
use Rattle.dubp_block.specs.Reading.{tx_at}
use Rattle.dubp_block.proofs.transactions.take_transactions.Given as goal

abbrev pub invariant-entries : goal.invariant-entries
invariant-entries l =
    entries (λ ls. not (next_passes (begins_with (codes "TX:")) ls)) tx_at l.initial.lines
    ≡ behind l.taken.items (entries (λ ls. not (next_passes (begins_with (codes "TX:")) ls)) tx_at l.lines)

abbrev pub decreases-entries : goal.decreases-entries
decreases-entries l = length l.lines.0
