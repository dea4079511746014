use Rattle.std.proofs.Common.{length, rules, ap, arith}
use Rattle.dubp_docs.proofs.Values.{sigs_wrong, sigs_are}
use Rattle.dubp_docs.proofs.lists.take_sigs.Goals as goal

pub returns-then-len-most : goal.returns-then-len-most
returns-then-len-most c =
    let e = c.in_ok-sigs.ensures in
    rw (sigs_wrong c.args.most c.args.lines.now c.take_values.new.lines e.lines (length c.in_ok-sigs.sigs.items) (ap length e.values) (λ same. c.if-len-most.true (omega (arith, c.in_ok-sigs.sigs.ok.0, c.len.ensures, same)))) (search rules)

pub returns : goal.returns
returns c =
    let e = c.in_ok-sigs.ensures in
    rw c.from_vec.ensures (sigs_are c.args.most c.args.lines.now c.take_values.new.lines e.lines c.in_ok-sigs.sigs.items e.values (omega (arith, c.in_ok-sigs.sigs.ok.0, c.len.ensures, c.if-len-most.false)) e.tail)
