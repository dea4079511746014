use Rattle.dubp_steps.proofs.Lines.{at_once_by_lines as law}
use Rattle.dubp_steps.proofs.laws.at_once_by_lines.Goals as goal

pub returns : goal.returns
returns c = law
