use Rattle.std.proofs.Common.{◌≡◌, map, take}
use Rattle.dubp_local.proofs.once.certification_issuers.Given as goal

abbrev pub invariant-loop-line : goal.invariant-loop-line
invariant-loop-line l = l.issuers.items ≡ map (λ line. line.from) (take l.line-index l.lines)
