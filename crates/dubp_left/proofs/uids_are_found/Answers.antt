use Rattle.dubp_left.proofs.Lines.{uid-there}
use Rattle.dubp_left.proofs.uids_are_found.Goals as goal

pub returns : goal.returns
returns g = uid-there
