use Rattle.std.proofs.Common.{◌≡◌, take}
use Rattle.dubp_cond.proofs.copying.copy_unlocks.Given as goal

abbrev pub invariant-loop-unlock : goal.invariant-loop-unlock
invariant-loop-unlock l = l.copied.items ≡ take l.unlock-index l.unlocks
