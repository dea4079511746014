use Rattle.dubp_resolve.proofs.Last.{same_choice}
use Rattle.dubp_resolve.proofs.laws.last_are_enough.Goals as goal

pub returns : goal.returns
returns c = same_choice
