use Rattle.std.proofs.Common.{◌/◌, arith}
use Rattle.std.proofs.lemmas.List.{length-take}
use Rattle.dubp_pow.proofs.Digits.{length-hash, hash_digit}
use Rattle.dubp_pow.proofs.meeting.meets.Goals as goal

pub slice_bounds-all_zero-end : goal.slice_bounds-all_zero-end
slice_bounds-all_zero-end c =
    let digits = c.as_bytes-digits.ensures in
    rw digits.text (omega (arith, length-take (c.args.d / 16) c.args.hash.now, length-hash c.args.hash.now digits.valid))

pub bounds-digits-zeros : goal.bounds-digits-zeros
bounds-digits-zeros c =
    let digits = c.as_bytes-digits.ensures in
    rw digits.text (omega (arith, length-hash c.args.hash.now digits.valid))

pub hex_value-requires : goal.hex_value-requires
hex_value-requires c =
    let digits = c.as_bytes-digits.ensures in
    rw digits.text (hash_digit c.args.hash.now digits.valid (c.args.d / 16) 0 (omega (arith, length-hash c.args.hash.now digits.valid)))
