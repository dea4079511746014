use Rattle.dubp_atoms.specs.Letters.{is_sig}
use Rattle.dubp_drafts.proofs.Reading.{is_read}
use Rattle.dubp_drafts.proofs.signing.sign.Goals as goal

pub unwrap-requires : goal.unwrap-requires
unwrap-requires c =
    is_read is_sig c.read.result _ c.read.ensures (rw (c.as_slice.ensures.value, c.put_as_signature.ensures.text, c.new-text.ensures) c.put_as_signature.ensures.valid)
