use Rattle.std.proofs.Common.{length}
use Rattle.dubp_parts_at_work.proofs.walks.+least_issuer.Given as goal

abbrev pub decreases-least_issuer : goal.decreases-least_issuer
decreases-least_issuer l = length l.pairs.now
