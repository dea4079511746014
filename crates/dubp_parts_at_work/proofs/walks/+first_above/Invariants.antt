use Rattle.std.proofs.Common.{length}
use Rattle.dubp_parts_at_work.proofs.walks.+first_above.Given as goal

abbrev pub decreases-first_above : goal.decreases-first_above
decreases-first_above l = length l.keys.now
