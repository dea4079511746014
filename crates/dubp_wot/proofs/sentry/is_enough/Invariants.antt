use Rattle.std.proofs.Common.{◌≡◌, ◌^◌}
use Rattle.dubp_wot.proofs.sentry.is_enough.Given as goal

abbrev pub invariant-loop-i : goal.invariant-loop-i
invariant-loop-i l = l.power ≡ l.base ^ l.i
