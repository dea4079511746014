use Rattle.dubp_money_steps.specs.Left.{account_in}
use Rattle.dubp_money_steps.proofs.Entries.{rows_are_at as law}
use Rattle.dubp_money_steps.proofs.laws.rows_are_at.Goals as goal

pub returns : goal.returns
returns c = λ texts chain. law (account_in texts) chain
