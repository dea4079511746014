-- What is found in the table by a code is the rule of that code.
use Rattle.dubp_rules.specs.Table.{table_rules}
use Rattle.dubp_rules.proofs.Places.{found_is_named}
use Rattle.dubp_rules.proofs.codes.of_code.Goals as goal

pub returns-clause-found : goal.returns-clause-found
returns-clause-found c = rw c.named.ensures (found_is_named c.args.text.now table_rules)
