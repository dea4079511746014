use Rattle.std.proofs.Common.{◌≡◌, ◌≤◌, ◌+◌, ◌==◌, count_by, drop}
use Rattle.dubp_atoms.specs.Letters.{LF}
use Rattle.dubp_lines.proofs.lines.count_in_piece.Given as goal

abbrev pub invariant-loop-byte : goal.invariant-loop-byte
invariant-loop-byte l = (l.count ≤ l.byte-index) × (l.count + count_by (λ c. c == LF) (drop l.byte-index l.piece) ≡ count_by (λ c. c == LF) l.piece)
