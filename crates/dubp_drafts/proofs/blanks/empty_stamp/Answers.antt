use Rattle.std.proofs.Common.{refl}
use Rattle.dubp_atoms.specs.Letters.{is_hash}
use Rattle.dubp_atoms.specs.Same.{empty_stamp}
use Rattle.dubp_drafts.proofs.Reading.{is_read}
use Rattle.dubp_drafts.proofs.blanks.empty_stamp.Goals as goal

pub unwrap-requires : goal.unwrap-requires
unfolding is_hash
unwrap-requires c = is_read is_hash c.read.result empty_stamp.hash c.read.ensures refl
