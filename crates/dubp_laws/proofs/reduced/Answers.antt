use Rattle.dubp_laws.proofs.Reduction.{reduces}
use Rattle.dubp_laws.proofs.reduced.Goals as goal

pub returns : goal.returns
returns c = reduces
