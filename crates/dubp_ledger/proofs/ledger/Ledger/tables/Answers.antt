use Rattle.std.proofs.Common.{subst}
use Rattle.dubp_ledger.proofs.ledger.Ledger.tables.Goals as goal

pub returns : goal.returns
returns g c = subst (λ s. g.T.Tables.at c.tables.result.now s.chain) c.self.view_is c.tables.ensures.at
