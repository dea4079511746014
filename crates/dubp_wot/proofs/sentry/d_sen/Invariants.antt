use Rattle.std.proofs.Common.{ℕ, ◌≤◌, ◌<◌, ◌^◌, ◌-◌}
use Rattle.dubp_wot.proofs.sentry.d_sen.Given as goal

abbrev pub invariant-loop-low : goal.invariant-loop-low
invariant-loop-low l = record {
  within : l.high ≤ l.members;
  order : l.low ≤ l.high;
  enough : l.members ≤ l.high ^ l.steps_max;
  below : (k : ℕ) → k < l.low → k ^ l.steps_max < l.members;
}

abbrev pub decreases-loop-low : goal.decreases-loop-low
decreases-loop-low l = l.high - l.low
