use Rattle.std.proofs.Common.{◌-◌}
use Rattle.dubp_docs.specs.Reading.{values_at}
use Rattle.dubp_docs.proofs.Values.{Counted}
use Rattle.dubp_docs.proofs.lists.pass_values.Given as goal

abbrev pub invariant-values : goal.invariant-values
invariant-values g l = Counted g.T.ListLine.reads l.most l.count l.lines (values_at g.T.ListLine.reads l.most l.fn.lines.0) l.fn.lines.1

abbrev pub decreases-values : goal.decreases-values
decreases-values g l = l.most - l.count
