use Rattle.dubp_steps.proofs.Counts.{fact_step as law}
use Rattle.dubp_steps.proofs.laws.fact_step.Goals as goal

pub returns : goal.returns
returns c = law
