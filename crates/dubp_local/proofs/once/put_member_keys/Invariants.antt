use Rattle.std.proofs.Common.{◌≡◌, ◌++◌, map, take}
use Rattle.dubp_local.proofs.once.put_member_keys.Given as goal

abbrev pub invariant-loop-line : goal.invariant-loop-line
invariant-loop-line l = l.keys.items ≡ l.fn.keys.items ++ map (λ line. line.key) (take l.line-index l.lines)
