use Rattle.std.proofs.Common.{◌≡◌}
use Rattle.dubp_time.specs.Median.{SameTimes}
use Rattle.dubp_parts_at_work.proofs.times.first_difference.Given as goal

abbrev pub invariant-loop-step : goal.invariant-loop-step
invariant-loop-step l = SameTimes l.window.times l.times.items × (l.window.room ≡ 24)
