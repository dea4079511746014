use Rattle.std.proofs.Common.{sym, ◌∙◌}
use Rattle.dubp_drafts.proofs.Hashed.{signed_hash_is, hash_with_is}
use Rattle.dubp_drafts.proofs.begun.Begun.hash_with.Goals as goal

pub returns : goal.returns
returns c = λ b begun.
    signed_hash_is b.issuer b.inner_hash c.args.nonce c.as_slice.result.now c.hash_behind-signature_hash.result c.as_slice-2.result.now c.hash_behind.result
    (c.as_slice.ensures.value ∙ rw (c.put_bytes.ensures.text, c.put_number.ensures.text, c.clear.ensures))
    (c.hash_behind-signature_hash.ensures _ begun.signing)
    (c.as_slice-2.ensures.value ∙ rw (c.put_bytes-2.ensures.text, c.put_as_signature.ensures.text, c.as_slice.ensures.value))
    (c.hash_behind.ensures _ begun.hashing)
    ∙ sym (hash_with_is b c.args.nonce)
