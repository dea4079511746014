use Rattle.std.proofs.Common.{◌≡◌, map, take}
use Rattle.dubp_local.proofs.once.joining_identities.Given as goal

abbrev pub invariant-loop-line : goal.invariant-loop-line
invariant-loop-line l = l.joining.items ≡ map (λ line. (line.key, (line.uid, line.identity_stamp))) (take l.line-index l.lines)
