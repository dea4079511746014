use Rattle.std.proofs.Common.{◌-◌, codes}
use Rattle.dubp_cond.specs.Gives.{left_of}
use Rattle.dubp_cond.specs.ReadingLines.{unlock_at, unlocks_at}
use Rattle.dubp_cond.proofs.UpToLoops.{PassesLeft}
use Rattle.dubp_cond.proofs.unlock.pass_unlocks.Given as goal

abbrev pub invariant-functions : goal.invariant-functions
invariant-functions l = PassesLeft unlock_at (codes " ") l.cursor (left_of (unlocks_at 8 l.fn.cursor)) (8 - l.counter)
