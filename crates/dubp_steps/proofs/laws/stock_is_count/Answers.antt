use Rattle.dubp_steps.proofs.Lives.{stock_is_count as law}
use Rattle.dubp_steps.proofs.laws.stock_is_count.Goals as goal

pub returns : goal.returns
returns c = law
