use Rattle.std.proofs.Common.{refl}
use Rattle.dubp_atoms.specs.Letters.{is_currency}
use Rattle.dubp_drafts.specs.Drafting.{currency}
use Rattle.dubp_drafts.proofs.Reading.{is_read}
use Rattle.dubp_drafts.proofs.blanks.currency.Goals as goal

pub unwrap-requires : goal.unwrap-requires
unfolding is_currency
unwrap-requires c = is_read is_currency c.read.result currency c.read.ensures refl
