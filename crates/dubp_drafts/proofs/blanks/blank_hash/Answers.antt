use Rattle.std.proofs.Common.{refl}
use Rattle.dubp_atoms.specs.Letters.{is_hash}
use Rattle.dubp_drafts.specs.Drafting.{blank_hash}
use Rattle.dubp_drafts.proofs.Reading.{is_read}
use Rattle.dubp_drafts.proofs.blanks.blank_hash.Goals as goal

pub unwrap-requires : goal.unwrap-requires
unfolding is_hash
unwrap-requires c = is_read is_hash c.read.result blank_hash c.read.ensures refl
