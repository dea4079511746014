use Rattle.std.proofs.Common.{◌≡◌, length, sym, ◌∙◌, ap, arith, rules}
use Rattle.std.proofs.lemmas.Bool.{eqb-true, eqb-false}
use Rattle.dubp_docs.proofs.Values.{list_absent, list_empty, list_is}
use Rattle.dubp_docs.proofs.lists.take_list.Goals as goal

pub returns-in_err-take_just : goal.returns-in_err-take_just
returns-in_err-take_just g c = rw (list_absent g.T.ListLine.reads c.args.heading.now c.args.lines.now _ c.in_err-take_just.ensures) (search rules)

pub returns-then-is_empty : goal.returns-then-is_empty
returns-then-is_empty g c =
    let e = c.in_ok-values.ensures in
    let none : length c.in_ok-values.values.items ≡ 0 = omega (arith, c.in_ok-values.values.ok.0, eqb-true _ _ (sym c.is_empty.ensures ∙ c.if-is_empty.true)) in
    rw (list_empty g.T.ListLine.reads c.args.heading.now c.args.lines.now c.take_just.new.lines c.in_ok-take_just.ensures c.take_values.new.lines e.lines (length c.in_ok-values.values.items) (ap length e.values) none) (search rules)

pub returns : goal.returns
returns g c =
    let e = c.in_ok-values.ensures in
    rw c.from_vec.ensures (list_is g.T.ListLine.reads c.args.heading.now c.args.lines.now c.take_just.new.lines c.in_ok-take_just.ensures c.take_values.new.lines e.lines c.in_ok-values.values.items e.values (λ none. eqb-false _ _ (sym c.is_empty.ensures ∙ c.if-is_empty.false) (omega (arith, c.in_ok-values.values.ok.0, none))) e.tail)
