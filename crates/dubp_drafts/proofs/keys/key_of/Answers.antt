use Rattle.dubp_atoms.specs.Letters.{is_key}
use Rattle.dubp_drafts.proofs.Reading.{is_read}
use Rattle.dubp_drafts.proofs.ByNumber.{three_digits}
use Rattle.dubp_drafts.proofs.keys.key_of.Goals as goal

pub unwrap-requires : goal.unwrap-requires
unwrap-requires c =
    is_read is_key c.read.result _ c.read.ensures (three_digits _ _ _ c.base58_digit.ensures.letter c.base58_digit-2.ensures.letter c.base58_digit-3.ensures.letter)
