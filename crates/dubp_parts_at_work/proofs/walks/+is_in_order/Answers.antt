use Rattle.std.proofs.Common.{sym, ◌∙◌}
use Rattle.std.proofs.lemmas.List.{nil_from_length}
use Rattle.dubp_wot.proofs.Listed.{in_order-none, in_order-more}
use Rattle.dubp_parts_at_work.proofs.walks.+is_in_order.Goals as goal

pub returns-then-is_below_all : goal.returns-then-is_below_all
returns-then-is_below_all t c =
    λ h. in_order-more c.in-Some.first.now c.in-Some.rest.now c.args.keys.now c.in-Some.ensures.cases.0
    (sym c.is_below_all.ensures ∙ c.if-is_below_all.true) (c.is_in_order.ensures h)

pub returns-in-None : goal.returns-in-None
returns-in-None t c = λ _. in_order-none c.args.keys.now (nil_from_length c.args.keys.now c.in-None.ensures.cases)
