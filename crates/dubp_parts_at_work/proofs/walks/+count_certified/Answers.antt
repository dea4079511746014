use Rattle.std.proofs.Common.{sym, ◌∙◌}
use Rattle.dubp_atoms.specs.Same.{Text, same_text}
use Rattle.dubp_wot.proofs.Listed.{count-more, count-known, count-other}
use Rattle.dubp_parts_at_work.proofs.walks.+count_certified.Goals as goal
use Rattle.dubp_parts_at_work.proofs.walks.+count_certified.Goals.{else-eq-via-then-eq+else-not-has_pair, else-eq-via-else-eq}

pub returns-then-not-has_pair-clause-count : goal.returns-then-not-has_pair-clause-count
returns-then-not-has_pair-clause-count t c =
    let from = c.args.from.now in
    count-more (λ (p : Text × Text). p.1) (λ p. same_text from p.0) c.in-Some.pair.now c.in-Some.rest.now c.args.pairs.now c.in-Some.ensures.cases.0
    c.count_certified-count.result c.count_certified-count.ensures.count (sym c.eq.ensures ∙ c.if-eq.true) (sym c.has_pair.ensures ∙ c.if-not-has_pair.true)

pub returns-else-eq-clause-count : goal.returns-else-eq-clause-count
returns-else-eq-clause-count t c =
    let from = c.args.from.now in
    let pair = c.in-Some.pair.now in
    let rest = c.in-Some.rest.now in
    let second = λ (p : Text × Text). p.1 in
    let test = λ (p : Text × Text). same_text from p.0 in
    let n = c.count_certified-count.result in
    elim c.else-eq.branch [
      | else-eq-via-then-eq+else-not-has_pair w ↦
          count-known second test pair rest c.args.pairs.now c.in-Some.ensures.cases.0 n c.count_certified-count.ensures.count
          (sym c.eq.ensures ∙ w.if-eq.true) (sym w.has_pair.ensures ∙ w.if-not-has_pair.false)
      | else-eq-via-else-eq w ↦
          count-other second test pair rest c.args.pairs.now c.in-Some.ensures.cases.0 n c.count_certified-count.ensures.count (sym c.eq.ensures ∙ w.if-eq.false)
    ]
