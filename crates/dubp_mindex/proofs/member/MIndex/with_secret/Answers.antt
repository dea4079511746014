use Rattle.dubp_mindex.proofs.Rows.{empty_at}
use Rattle.dubp_mindex.proofs.member.MIndex.with_secret.Goals as goal

pub returns-clause-at : goal.returns-clause-at
returns-clause-at c = rw c.over.ensures.now empty_at
