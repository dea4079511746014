use Rattle.dubp_steps.proofs.Lines.{each_line_stands as law}
use Rattle.dubp_steps.proofs.laws.each_line_stands.Goals as goal

pub returns : goal.returns
returns c = law
