use Rattle.std.proofs.Common.{◌≡◌, map, take}
use Rattle.dubp_local.proofs.once.identity_uids.Given as goal

abbrev pub invariant-loop-line : goal.invariant-loop-line
invariant-loop-line l = l.uids.items ≡ map (λ line. line.uid) (take l.line-index l.lines)
