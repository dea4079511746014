use Rattle.std.proofs.Common.{subst}
use Rattle.dubp_laws.specs.Laws.{IsConserved}
use Rattle.dubp_session.proofs.serving.tell_entry.Goals as goal

pub returns-clause-told : goal.returns-clause-told
returns-clause-told g c = λ told entry whole shows. record {
  served = c.tell_item.ensures.told told entry whole shows;
  conserved = subst IsConserved c.ledger.ensures.chain (c.conserved.ensures c.ledger.result.now.chain c.laws.ensures.sound);
}
