use Rattle.std.proofs.Common.{◌∙◌}
use Rattle.dubp_money.proofs.money.Money.totals.Goals as goal

pub returns : goal.returns
returns c = λ chain at. c.get.ensures ∙ at.1.1 tt
