use Rattle.dubp_left.proofs.Lines.{identities-counted}
use Rattle.dubp_left.proofs.identities_are_counted.Goals as goal

pub returns : goal.returns
returns g = identities-counted
