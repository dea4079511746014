use Rattle.dubp_steps.proofs.Lines.{row_is_old as law}
use Rattle.dubp_steps.proofs.laws.row_is_old.Goals as goal

pub returns : goal.returns
returns c = law
