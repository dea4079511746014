use Rattle.dubp_steps.proofs.Touched.{kicked_by_records as law}
use Rattle.dubp_steps.proofs.laws.kicked_by_records.Goals as goal

pub returns : goal.returns
returns c = law
