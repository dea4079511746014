use Rattle.std.proofs.Common.{sym}
use Rattle.dubp_block.proofs.writing.add_params.Goals as goal

pub returns-in-Some : goal.returns-in-Some
returns-in-Some g c = rw (c.in-Some.is, sym c.get.ensures) c.add_value.ensures
