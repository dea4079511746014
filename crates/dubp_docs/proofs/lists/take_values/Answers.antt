use Rattle.std.proofs.Common.{◌-◌, ◌∙◌, sym, length, arith}
use Rattle.dubp_docs.specs.Reading.{values_at}
use Rattle.dubp_docs.proofs.Values.{no_line, a_line, stops_full, stops_empty, stops_unread, take_ends, take_goes}
use Rattle.dubp_docs.proofs.lists.take_values.Goals as goal

pub returns-in_default : goal.returns-in_default
returns-in_default g c =
    let read = g.T.ListLine.reads in
    let front = c.values.values.items in
    let s = stops_empty read (c.args.most - length front) c.values.lines.0 (no_line c.values.lines c.in_default.field-0.left c.in_default.ensures) in
    let e = take_ends read c.args.most front c.values.lines (values_at read c.args.most c.args.lines.now.0) c.args.lines.now.1 c.values.invariant s in
    record { values = e.values; lines = e.lines; tail = e.tail }

pub returns-in_default-2 : goal.returns-in_default-2
returns-in_default-2 g c =
    let read = g.T.ListLine.reads in
    let front = c.values.values.items in
    let line = c.in-Ok.line.now in
    let s = stops_unread read (c.args.most - length front) line c.values.lines.0 _ (a_line c.values.lines line c.in-Ok.ensures) (sym c.in_ok-value.ensures ∙ c.in_default-2.is) in
    let e = take_ends read c.args.most front c.values.lines (values_at read c.args.most c.args.lines.now.0) c.args.lines.now.1 c.values.invariant s in
    record { values = e.values; lines = e.lines; tail = e.tail }

pub values-preserved : goal.values-preserved
values-preserved g c =
    let read = g.T.ListLine.reads in
    let front = c.values.values.items in
    let line = c.in-Ok.line.now in
    take_goes read c.args.most front c.push.new.values.items c.values.lines c.skip.new.self (values_at read c.args.most c.args.lines.now.0) c.args.lines.now.1 line c.in-Some.value c.values.invariant (omega (arith, c.values.values.ok.0))
    (a_line c.values.lines line c.in-Ok.ensures) (sym c.in_ok-value.ensures ∙ c.in-Some.is) c.in_ok-push.ensures c.skip.ensures.lines c.skip.ensures.tail

pub returns : goal.returns
returns g c =
    let read = g.T.ListLine.reads in
    let front = c.values.values.items in
    let s = stops_full read (c.args.most - length front) c.values.lines.0 (omega (arith, c.values.values.ok.0)) in
    let e = take_ends read c.args.most front c.values.lines (values_at read c.args.most c.args.lines.now.0) c.args.lines.now.1 c.values.invariant s in
    record { values = e.values; lines = e.lines; tail = e.tail }
