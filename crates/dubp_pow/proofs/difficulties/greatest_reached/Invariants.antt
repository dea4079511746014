use Rattle.std.proofs.Common.{◌≡◌, ◌-◌, ◌⊎◌}
use Rattle.dubp_pow.specs.Difficulty.{IsReached}
use Rattle.dubp_pow.proofs.difficulties.greatest_reached.Given as goal

-- the handicap below h is reached, unless it is 0
abbrev pub invariant-loop-h : goal.invariant-loop-h
invariant-loop-h l = IsReached l.blocks l.doubled_median (l.h - 1) ⊎ (l.h - 1 ≡ 0)
