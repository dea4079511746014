use Rattle.dubp_steps.proofs.Counts.{wrote_is_greatest as law}
use Rattle.dubp_steps.proofs.laws.wrote_is_greatest.Goals as goal

pub returns : goal.returns
returns c = law
