use Rattle.dubp_laws.proofs.Conservation.{conserves}
use Rattle.dubp_laws.proofs.conserved.Goals as goal

pub returns : goal.returns
returns c = conserves
