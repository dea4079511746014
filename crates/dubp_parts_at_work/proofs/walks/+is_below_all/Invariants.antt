use Rattle.std.proofs.Common.{length}
use Rattle.dubp_parts_at_work.proofs.walks.+is_below_all.Given as goal

abbrev pub decreases-is_below_all : goal.decreases-is_below_all
decreases-is_below_all l = length l.keys.now
