use Rattle.dubp_laws.proofs.Spending.{pays}
use Rattle.dubp_money_steps.proofs.ByBalance.{clears_by_balance as law}
use Rattle.dubp_money_steps.proofs.laws.clears_by_balance.Goals as goal

pub returns : goal.returns
returns c = λ chain b sound. law chain b (pays chain b sound)
