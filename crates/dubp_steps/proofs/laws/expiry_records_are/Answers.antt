use Rattle.dubp_steps.proofs.Ends.{expiry_records_are as law}
use Rattle.dubp_steps.proofs.laws.expiry_records_are.Goals as goal

pub returns : goal.returns
returns c = law
