use Rattle.dubp_steps.proofs.Lines.{certifying_replans as law}
use Rattle.dubp_steps.proofs.laws.certifying_replans.Goals as goal

pub returns : goal.returns
returns c = law
