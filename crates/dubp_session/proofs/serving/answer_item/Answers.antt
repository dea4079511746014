use Rattle.std.proofs.Common.{subst}
use Rattle.dubp_laws.specs.Laws.{IsConserved}
use Rattle.dubp_session.proofs.serving.answer_item.Goals as goal

pub returns : goal.returns
returns g c = λ entry whole shows. record {
  served = c.answer_of-told.ensures entry whole shows;
  conserved = subst IsConserved c.ledger.ensures.chain (c.conserved.ensures c.ledger.result.now.chain c.laws.ensures.sound);
}
