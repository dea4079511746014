use Rattle.std.proofs.Common.{◌-◌, codes, length}
use Rattle.dubp_cond.specs.ReadingLines.{unlock_at, unlocks_at}
use Rattle.dubp_cond.proofs.UpToLoops.{LeftOf}
use Rattle.dubp_cond.proofs.unlock.take_unlocks.Given as goal

abbrev pub invariant-functions : goal.invariant-functions
invariant-functions l = LeftOf unlock_at (codes " ") l.list.items l.cursor (unlocks_at 8 l.fn.cursor) (8 - length l.list.items)

abbrev pub decreases-functions : goal.decreases-functions
decreases-functions l = 8 - length l.list.items
