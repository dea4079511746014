use Rattle.dubp_money_rules.proofs.Readable.{conditions_are_read}
use Rattle.dubp_money_rules.proofs.laws.conditions_can_be_read.Goals as goal

pub returns : goal.returns
returns g = conditions_are_read
