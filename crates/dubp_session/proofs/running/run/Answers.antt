use Rattle.std.proofs.Common.{subst}
use Rattle.dubp_laws.specs.Laws.{IsConserved}
use Rattle.dubp_session.proofs.running.run.Goals as goal

pub returns-clause-conserved : goal.returns-clause-conserved
returns-clause-conserved g c = subst IsConserved c.ledger.ensures.chain (c.conserved.ensures c.ledger.result.now.chain c.laws.ensures.sound)
