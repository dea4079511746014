use Rattle.std.proofs.Common.{Some, ◌∙◌}
use Rattle.dubp_cindex.proofs.index.CIndex.row.Goals as goal

pub returns : goal.returns
returns c = λ s a. c.get.ensures ∙ a.0 (c.args.from, Some c.args.to)
