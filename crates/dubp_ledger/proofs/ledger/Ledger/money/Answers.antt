use Rattle.std.proofs.Common.{subst}
use Rattle.dubp_people_and_money.specs.OfKept.{AreStates}
use Rattle.dubp_ledger.proofs.ledger.Ledger.money.Goals as goal

pub returns-clause-at : goal.returns-clause-at
returns-clause-at g c = c.money.ensures.at c.args.self.now.chain (subst (λ s. g.T.Tables.at c.tables.result.now s.chain) c.self.view_is c.tables.ensures.at)

pub returns-clause-states : goal.returns-clause-states
returns-clause-states g c =
    let t = c.tables.result.now in
    c.money.ensures.states c.args.self.now (subst (AreStates (g.T.Tables.is (g.T.Tables.names t)) (g.T.Tables.now t) (g.T.Tables.count t) (g.T.Tables.others t)) c.self.view_is c.tables.ensures.states)
