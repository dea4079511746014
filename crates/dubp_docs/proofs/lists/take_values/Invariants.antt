use Rattle.std.proofs.Common.{◌-◌, length}
use Rattle.dubp_docs.specs.Reading.{values_at}
use Rattle.dubp_docs.proofs.Values.{Taken}
use Rattle.dubp_docs.proofs.lists.take_values.Given as goal

abbrev pub invariant-values : goal.invariant-values
invariant-values g l = Taken g.T.ListLine.reads l.most l.values.items l.lines (values_at g.T.ListLine.reads l.most l.fn.lines.0) l.fn.lines.1

abbrev pub decreases-values : goal.decreases-values
decreases-values g l = l.most - length l.values.items
