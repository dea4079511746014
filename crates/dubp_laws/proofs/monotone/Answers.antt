-- More verdicts break no rule.
use Rattle.dubp_laws.proofs.MoreVerdicts.{holds_more}
use Rattle.dubp_laws.proofs.monotone.Goals as goal

pub returns : goal.returns
returns c = λ v w within chain b rule holds. holds_more v w within chain b rule holds
