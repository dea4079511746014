use Rattle.std.proofs.Common.{◌≡◌, ◌≤◌, ◌+◌, ◌==◌, count_by, length}
use Rattle.dubp_atoms.specs.Letters.{LF}
use Rattle.dubp_lines.proofs.lines.count_ends.Given as goal

abbrev pub invariant-loop-rest : goal.invariant-loop-rest
invariant-loop-rest l = (l.count + count_by (λ c. c == LF) l.rest ≡ count_by (λ c. c == LF) l.text) × (l.count + length l.rest ≤ length l.text)

abbrev pub decreases-loop-rest : goal.decreases-loop-rest
decreases-loop-rest l = length l.rest
