use Rattle.std.proofs.Common.{◌+◌, ◌*◌, ◌^◌, arith}
use Rattle.std.proofs.Math.Nat.{div-div-eq-div-mul, one-le-pow}
use Rattle.dubp_pow.proofs.difficulties.exclusion_factor.Goals as goal

pub nonzero_div-result : goal.nonzero_div-result
nonzero_div-result c = rw c.in-Some.ensures.1 (one-le-pow c.args.rot.places 10 (omega arith))

pub returns-in-Some-clause-value : goal.returns-in-Some-clause-value
returns-in-Some-clause-value c =
    rw c.in-Some.ensures.1 (div-div-eq-div-mul (c.args.rot.mantissa * c.args.issuers) (10 ^ c.args.rot.places) (1 + c.args.since))
