use Rattle.dubp_steps.proofs.Counts.{members_are_count as law}
use Rattle.dubp_steps.proofs.laws.members_are_count.Goals as goal

pub returns : goal.returns
returns c = law
