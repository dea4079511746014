use Rattle.dubp_steps.proofs.Touched.{members_are_table as law}
use Rattle.dubp_steps.proofs.laws.members_are_table.Goals as goal

pub returns : goal.returns
returns c = law
