use Rattle.std.proofs.Common.{arith}
use Rattle.std.proofs.lemmas.List.{length-take}
use Rattle.dubp_pow.proofs.Digits.{length-hash}
use Rattle.dubp_drafts.proofs.Signatures.{signature_is_sig}
use Rattle.dubp_drafts.proofs.signing.put_as_signature.Goals as goal

pub slice_bounds-put_bytes-end : goal.slice_bounds-put_bytes-end
slice_bounds-put_bytes-end c =
    let digits = c.as_bytes-digits.ensures in
    rw digits.text (omega (arith, length-take 22 c.args.hash.now, length-hash c.args.hash.now digits.valid))

pub put_bytes-requires-3 : goal.put_bytes-requires-3
put_bytes-requires-3 c =
    omega (arith, c.put_bytes.ensures.room, c.put_bytes-2.ensures.room, length-take 22 c.as_bytes-digits.result.now, c.as_bytes-digits.ensures.fits)

pub returns-clause-room : goal.returns-clause-room
returns-clause-room c =
    omega (arith, c.put_bytes.ensures.room, c.put_bytes-2.ensures.room, c.put_bytes-3.ensures.room, length-take 22 c.as_bytes-digits.result.now, c.as_bytes-digits.ensures.fits)

pub returns-clause-valid : goal.returns-clause-valid
returns-clause-valid c = signature_is_sig c.args.hash.now c.as_bytes-digits.ensures.valid
