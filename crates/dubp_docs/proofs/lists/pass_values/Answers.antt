use Rattle.std.proofs.Common.{◌-◌, ◌∙◌, sym, arith}
use Rattle.dubp_docs.specs.Reading.{values_at}
use Rattle.dubp_docs.proofs.Values.{no_line, a_line, not_read, is_read, stops_full, stops_empty, stops_unread, count_ends, count_goes}
use Rattle.dubp_docs.proofs.lists.pass_values.Goals as goal

pub returns-in_default : goal.returns-in_default
returns-in_default g c =
    let read = g.T.ListLine.reads in
    let s = stops_empty read (c.args.most - c.values.count) c.values.lines.0 (no_line c.values.lines c.in_default.field-0.left c.in_default.ensures) in
    let e = count_ends read c.args.most c.values.count c.values.lines (values_at read c.args.most c.args.lines.now.0) c.args.lines.now.1 c.values.invariant s in
    record { count = e.count; lines = e.lines; tail = e.tail }

pub returns-then-not-is_line : goal.returns-then-not-is_line
returns-then-not-is_line g c =
    let read = g.T.ListLine.reads in
    let line = c.in-Ok.line.now in
    let s = stops_unread read (c.args.most - c.values.count) line c.values.lines.0 _ (a_line c.values.lines line c.in-Ok.ensures) (not_read (read line) (sym c.is_line.ensures ∙ c.if-not-is_line.true)) in
    let e = count_ends read c.args.most c.values.count c.values.lines (values_at read c.args.most c.args.lines.now.0) c.args.lines.now.1 c.values.invariant s in
    record { count = e.count; lines = e.lines; tail = e.tail }

pub values-preserved : goal.values-preserved
values-preserved g c =
    let read = g.T.ListLine.reads in
    let line = c.in-Ok.line.now in
    let x = is_read (read line) (sym c.is_line.ensures ∙ c.if-not-is_line.false) in
    count_goes read c.args.most c.values.count c.values.lines c.skip.new.self (values_at read c.args.most c.args.lines.now.0) c.args.lines.now.1 line x.0 c.values.invariant c.values-test.true
    (a_line c.values.lines line c.in-Ok.ensures) x.1 c.skip.ensures.lines c.skip.ensures.tail

pub returns : goal.returns
returns g c =
    let read = g.T.ListLine.reads in
    let s = stops_full read (c.args.most - c.values.count) c.values.lines.0 (omega arith) in
    let e = count_ends read c.args.most c.values.count c.values.lines (values_at read c.args.most c.args.lines.now.0) c.args.lines.now.1 c.values.invariant s in
    record { count = e.count; lines = e.lines; tail = e.tail }
