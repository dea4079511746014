use Rattle.dubp_steps.proofs.Lines.{entering_replans as law}
use Rattle.dubp_steps.proofs.laws.entering_replans.Goals as goal

pub returns : goal.returns
returns c = law
