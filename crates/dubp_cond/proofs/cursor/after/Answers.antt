use Rattle.std.proofs.Common.{sym}
use Rattle.dubp_cond.proofs.Strips.{stripped}
use Rattle.dubp_cond.proofs.cursor.after.Goals as goal

pub returns-clause-value : goal.returns-clause-value
returns-clause-value c = sym (stripped c.args.text.now c.args.word.now c.strip_prefix.result c.strip_prefix.ensures.cases)
