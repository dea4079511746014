use Rattle.std.proofs.Common.{arith}
use Rattle.dubp_atoms.specs.Letters.{is_uid}
use Rattle.dubp_drafts.proofs.Reading.{is_read}
use Rattle.dubp_drafts.proofs.ByNumber.{uid_text_is_uid}
use Rattle.dubp_drafts.proofs.keys.uid_of.Goals as goal

pub unwrap-requires : goal.unwrap-requires
unwrap-requires c =
    is_read is_uid c.read.result _ c.read.ensures
    (rw (c.as_slice.ensures.value, c.put_number.ensures.text, c.put_bytes.ensures.text, c.new-text.ensures) (uid_text_is_uid c.args.number (omega arith)))
