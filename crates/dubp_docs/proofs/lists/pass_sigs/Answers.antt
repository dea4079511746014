use Rattle.std.proofs.Common.{rules}
use Rattle.dubp_docs.proofs.Values.{sigs_wrong, sigs_counted}
use Rattle.dubp_docs.proofs.lists.pass_sigs.Goals as goal

pub returns-then-count-most : goal.returns-then-count-most
returns-then-count-most c =
    let e = c.pass_values-count.ensures in
    rw (sigs_wrong c.args.most c.args.lines.now c.pass_values-count.new.lines e.lines c.pass_values-count.result e.count c.if-count-most.true) (search rules)

pub returns : goal.returns
returns c =
    let e = c.pass_values-count.ensures in
    sigs_counted c.args.most c.args.lines.now c.pass_values-count.new.lines e.lines c.pass_values-count.result e.count c.if-count-most.false e.tail
