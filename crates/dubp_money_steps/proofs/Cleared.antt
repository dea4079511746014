-- Clearing the rows by balances is clearing the sources.
use Rattle.dubp_laws.proofs.Spending.{pays}
use Rattle.dubp_money_steps.specs.Left.{account_in}
use Rattle.dubp_money_steps.specs.Laws.{ClearsRows}
use Rattle.dubp_money_steps.proofs.Entries.{left_is, taken_is}
use Rattle.dubp_money_steps.proofs.Numbering.{rest_apart}

pub clears_rows : ClearsRows
clears_rows texts c b sound has =
    let apart = rest_apart texts c b has in
    record {
      left = left_is (account_in texts) c b (pays c b sound) apart;
      taken = taken_is (account_in texts) c b (pays c b sound) apart;
    }
