use Rattle.dubp_steps.proofs.Ends.{ended_records_are as law}
use Rattle.dubp_steps.proofs.laws.ended_records_are.Goals as goal

pub returns : goal.returns
returns c = law
