use Rattle.std.proofs.Common.{◌≡◌, map, take}
use Rattle.dubp_local.proofs.once.certified_pairs.Given as goal

abbrev pub invariant-loop-line : goal.invariant-loop-line
invariant-loop-line l = l.pairs.items ≡ map (λ line. (line.from, line.to)) (take l.line-index l.lines)
