use Rattle.dubp_steps.proofs.Lines.{kicked_fold as law}
use Rattle.dubp_steps.proofs.laws.kicked_fold.Goals as goal

pub returns : goal.returns
returns c = law
