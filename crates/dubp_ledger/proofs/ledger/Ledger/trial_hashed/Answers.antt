use Rattle.std.proofs.Common.{IfOk, subst}
use Rattle.dubp_people_and_money.specs.OfValidity.{FirstBad}
use Rattle.dubp_ledger.proofs.ledger.Ledger.trial_hashed.Goals as goal

pub returns : goal.returns
returns g c = subst (λ s. IfOk c.trial.result (FirstBad c.args.verdicts.now s.chain c.args.block.now)) c.self.view_is c.trial.ensures
