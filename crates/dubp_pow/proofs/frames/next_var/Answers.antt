use Rattle.std.proofs.Common.{◌+ℤ◌, ◌-ℤ◌, SFits, w64, rules}
use Rattle.dubp_pow.proofs.Returns.{moved_and_nearer}
use Rattle.dubp_pow.proofs.frames.next_var.Goals as goal

pub returns : goal.returns
returns c =
    let var = c.args.var in
    let moved = c.issuers_moved.result in
    let sign = c.signum.result in
    let fits_moved : SFits w64 moved = search rules in
    let fits_sign : SFits w64 sign = search rules in
    let fits_sum : SFits w64 (var +ℤ moved) = search rules in
    let fits_all : SFits w64 ((var +ℤ moved) -ℤ sign) = search rules in
    rw (← c.issuers_moved.ensures.value) (moved_and_nearer var moved sign c.ranges.var fits_moved fits_sign fits_sum fits_all c.signum.ensures.value)
