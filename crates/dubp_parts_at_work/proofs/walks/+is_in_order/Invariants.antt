use Rattle.std.proofs.Common.{length}
use Rattle.dubp_parts_at_work.proofs.walks.+is_in_order.Given as goal

abbrev pub decreases-is_in_order : goal.decreases-is_in_order
decreases-is_in_order l = length l.keys.now
