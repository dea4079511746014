use Rattle.std.proofs.Common.{rules}
use Rattle.dubp_docs.proofs.Values.{list_absent, list_empty, list_counted}
use Rattle.dubp_docs.proofs.lists.pass_list.Goals as goal

pub returns-in_err-take_just : goal.returns-in_err-take_just
returns-in_err-take_just g c = rw (list_absent g.T.ListLine.reads c.args.heading.now c.args.lines.now _ c.in_err-take_just.ensures) (search rules)

pub returns-then-count-eq0 : goal.returns-then-count-eq0
returns-then-count-eq0 g c =
    let e = c.pass_values-count.ensures in
    rw (list_empty g.T.ListLine.reads c.args.heading.now c.args.lines.now c.take_just.new.lines c.in_ok-take_just.ensures c.pass_values-count.new.lines e.lines c.pass_values-count.result e.count c.if-count-eq0.true) (search rules)

pub returns : goal.returns
returns g c =
    let e = c.pass_values-count.ensures in
    list_counted g.T.ListLine.reads c.args.heading.now c.args.lines.now c.take_just.new.lines c.in_ok-take_just.ensures c.pass_values-count.new.lines e.lines c.pass_values-count.result e.count c.if-count-eq0.false e.tail
