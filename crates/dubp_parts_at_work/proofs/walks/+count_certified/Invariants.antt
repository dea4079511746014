use Rattle.std.proofs.Common.{length}
use Rattle.dubp_parts_at_work.proofs.walks.+count_certified.Given as goal

abbrev pub decreases-count_certified : goal.decreases-count_certified
decreases-count_certified l = length l.pairs.now
