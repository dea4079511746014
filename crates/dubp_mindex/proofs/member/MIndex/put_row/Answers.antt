use Rattle.dubp_mindex.proofs.Rows.{row_put}
use Rattle.dubp_mindex.proofs.member.MIndex.put_row.Goals as goal

pub returns-clause-at : goal.returns-clause-at
returns-clause-at g c = λ s t is. row_put _ _ s t c.args.key c.args.row c.in_ok-set.ensures.now is
