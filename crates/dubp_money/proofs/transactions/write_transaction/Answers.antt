use Rattle.dubp_money.specs.Writing.{without_inputs}
use Rattle.dubp_money.proofs.Rows.{rows-filter}
use Rattle.dubp_money.proofs.transactions.write_transaction.Goals as goal

pub returns-clause-at : goal.returns-clause-at
returns-clause-at g c = λ rows are can has. c.in_ok-make_outputs.ensures.at (without_inputs c.args.tx.now.inputs rows) (rows-filter _ rows are) can (c.in_ok-spend_inputs.ensures.at rows are has)

pub returns-in_err-make_outputs-clause-stays : goal.returns-in_err-make_outputs-clause-stays
returns-in_err-make_outputs-clause-stays g c = λ n s is. c.in_err-make_outputs.ensures.stays n s (c.in_ok-spend_inputs.ensures.stays n s is)

pub returns-clause-stays : goal.returns-clause-stays
returns-clause-stays g c = λ n s is. c.in_ok-make_outputs.ensures.stays n s (c.in_ok-spend_inputs.ensures.stays n s is)
