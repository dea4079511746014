use Rattle.std.proofs.Common.{length}
use Rattle.dubp_parts_at_work.proofs.walks.+has_pair.Given as goal

abbrev pub decreases-has_pair : goal.decreases-has_pair
decreases-has_pair l = length l.pairs.now
