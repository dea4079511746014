use Rattle.std.proofs.Common.{◌≡◌, map, take}
use Rattle.dubp_local.proofs.once.named_identities.Given as goal

abbrev pub invariant-loop-line : goal.invariant-loop-line
invariant-loop-line l = l.named.items ≡ map (λ line. (line.key, (line.uid, line.stamp))) (take l.line-index l.lines)
