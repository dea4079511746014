use Rattle.std.proofs.Common.{sym, ◌∙◌}
use Rattle.dubp_atoms.specs.Same.{Text, same_text}
use Rattle.dubp_wot.proofs.Listed.{any-swap, count-more, count-known, count-other}
use Rattle.dubp_parts_at_work.proofs.walks.+count_issuers.Goals as goal
use Rattle.dubp_parts_at_work.proofs.walks.+count_issuers.Goals.{else-eq-via-then-eq+else-not-has_pair, else-eq-via-else-eq}

pub returns-then-not-has_pair-clause-count : goal.returns-then-not-has_pair-clause-count
returns-then-not-has_pair-clause-count t c =
    let to = c.args.to.now in
    let pair = c.in-Some.pair.now in
    let rest = c.in-Some.rest.now in
    count-more (λ (p : Text × Text). p.0) (λ p. same_text to p.1) pair rest c.args.pairs.now c.in-Some.ensures.cases.0 c.count_issuers-count.result
    c.count_issuers-count.ensures.count (sym c.eq.ensures ∙ c.if-eq.true)
    (sym (any-swap pair.0 to rest) ∙ sym c.has_pair.ensures ∙ c.if-not-has_pair.true)

pub returns-else-eq-clause-count : goal.returns-else-eq-clause-count
returns-else-eq-clause-count t c =
    let to = c.args.to.now in
    let pair = c.in-Some.pair.now in
    let rest = c.in-Some.rest.now in
    let first = λ (p : Text × Text). p.0 in
    let test = λ (p : Text × Text). same_text to p.1 in
    let n = c.count_issuers-count.result in
    elim c.else-eq.branch [
      | else-eq-via-then-eq+else-not-has_pair w ↦
          count-known first test pair rest c.args.pairs.now c.in-Some.ensures.cases.0 n c.count_issuers-count.ensures.count
          (sym c.eq.ensures ∙ w.if-eq.true) (sym (any-swap pair.0 to rest) ∙ sym w.has_pair.ensures ∙ w.if-not-has_pair.false)
      | else-eq-via-else-eq w ↦
          count-other first test pair rest c.args.pairs.now c.in-Some.ensures.cases.0 n c.count_issuers-count.ensures.count (sym c.eq.ensures ∙ w.if-eq.false)
    ]
