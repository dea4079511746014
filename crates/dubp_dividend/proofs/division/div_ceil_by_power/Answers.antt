use Rattle.std.proofs.Common.{arith}
use Rattle.std.proofs.Math.Nat.{one-le-pow}
use Rattle.dubp_dividend.proofs.division.div_ceil_by_power.Goals as goal

pub div_ceil-requires : goal.div_ceil-requires
div_ceil-requires c = rw c.in-Some.ensures.1 (one-le-pow c.args.exponent 10 (omega arith))
