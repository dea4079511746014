use Rattle.dubp_query.proofs.Queries.{diff_is}
use Rattle.dubp_query.proofs.telling.put_difficulty_line.Goals as goal

pub returns-clause-told : goal.returns-clause-told
returns-clause-told g c = diff_is c.args.ledger.now.chain c.args.key c.put_diff_line.new.line.items c.in_ok-difficulty.difficulty c.put_diff_line.ensures c.in_ok-difficulty.ensures.value
