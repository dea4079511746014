use Rattle.std.proofs.Common.{◌≡◌, map, take}
use Rattle.dubp_money_rules.proofs.hashes.all_whole.Given as goal

abbrev pub invariant-loop-hash : goal.invariant-loop-hash
invariant-loop-hash l = l.whole.items ≡ map (λ h. h.whole) (take l.hash-index l.hashes)
