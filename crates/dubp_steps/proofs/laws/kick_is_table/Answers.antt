use Rattle.dubp_steps.proofs.Touched.{kick_is_table as law}
use Rattle.dubp_steps.proofs.laws.kick_is_table.Goals as goal

pub returns : goal.returns
returns c = law
