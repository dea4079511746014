use Rattle.std.proofs.Common.{length}
use Rattle.dubp_parts_at_work.proofs.walks.+count_issuers.Given as goal

abbrev pub decreases-count_issuers : goal.decreases-count_issuers
decreases-count_issuers l = length l.pairs.now
