use Rattle.std.proofs.Common.{◌≡◌, take}
use Rattle.dubp_cond.proofs.copying.copy_unlock_lines.Given as goal

abbrev pub invariant-loop-line : goal.invariant-loop-line
invariant-loop-line l = l.copied.items ≡ take l.line-index l.lines
