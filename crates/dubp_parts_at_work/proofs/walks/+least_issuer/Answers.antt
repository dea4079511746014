use Rattle.std.proofs.Common.{sym, ◌∙◌}
use Rattle.dubp_wot.proofs.Listed.{next-taken, next-kept, next-passed, next-other}
use Rattle.dubp_parts_at_work.proofs.walks.+least_issuer.Goals as goal
use Rattle.dubp_parts_at_work.proofs.walks.+least_issuer.Goals.{else-eq-via-then-eq+then-is_above_key+else-is_below_key, else-eq-via-then-eq+else-is_above_key, else-eq-via-else-eq}

pub returns-then-is_below_key : goal.returns-then-is_below_key
returns-then-is_below_key t c =
    next-taken c.in-Some.pair.now c.in-Some.rest.now c.args.to.now c.args.after.now c.args.pairs.now c.least_issuer-best.result c.in-Some.ensures.cases.0
    c.least_issuer-best.ensures (sym c.eq.ensures ∙ c.if-eq.true) (sym c.is_above_key.ensures ∙ c.if-is_above_key.true)
    (sym c.is_below_key.ensures ∙ c.if-is_below_key.true)

pub returns-else-eq : goal.returns-else-eq
returns-else-eq t c =
    let pair = c.in-Some.pair.now in
    let rest = c.in-Some.rest.now in
    let to = c.args.to.now in
    let after = c.args.after.now in
    let pairs = c.args.pairs.now in
    let best = c.least_issuer-best.result in
    let is = c.in-Some.ensures.cases.0 in
    let next = c.least_issuer-best.ensures in
    elim c.else-eq.branch [
      | else-eq-via-then-eq+then-is_above_key+else-is_below_key w ↦
          next-kept pair rest to after pairs best is next (λ _ _. sym w.is_below_key.ensures ∙ w.if-is_below_key.false)
      | else-eq-via-then-eq+else-is_above_key w ↦ next-passed pair rest to after pairs best is next (sym w.is_above_key.ensures ∙ w.if-is_above_key.false)
      | else-eq-via-else-eq w ↦ next-other pair rest to after pairs best is next (sym c.eq.ensures ∙ w.if-eq.false)
    ]
