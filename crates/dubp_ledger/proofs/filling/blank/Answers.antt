use Rattle.std.proofs.Common.{refl}
use Rattle.dubp_atoms.specs.Letters.{is_sig}
use Rattle.dubp_forging.specs.Filled.{blank_sig}
use Rattle.dubp_ledger.proofs.Filled.{is_read}
use Rattle.dubp_ledger.proofs.filling.blank.Goals as goal

pub unwrap-requires : goal.unwrap-requires
unfolding is_sig
unwrap-requires c = is_read is_sig c.read.result blank_sig c.read.ensures refl
