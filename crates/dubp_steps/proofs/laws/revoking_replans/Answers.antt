use Rattle.dubp_steps.proofs.Lines.{revoking_replans as law}
use Rattle.dubp_steps.proofs.laws.revoking_replans.Goals as goal

pub returns : goal.returns
returns c = law
