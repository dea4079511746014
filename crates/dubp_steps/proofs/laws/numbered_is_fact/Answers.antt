use Rattle.dubp_steps.proofs.Counts.{numbered_is_fact as law}
use Rattle.dubp_steps.proofs.laws.numbered_is_fact.Goals as goal

pub returns : goal.returns
returns c = law
