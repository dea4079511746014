use Rattle.std.proofs.Common.{◌≡◌, ◌+◌, ◌/◌, ◌^◌, ◌≤◌, ◌∙◌, inl, inr, true≢false, sym, subst, arith}
use Rattle.std.proofs.lemmas.Bool.{cases_lt}
use Rattle.dubp_wot.proofs.Powers.{le-pow, below-too_little, d_sen_of-least}
use Rattle.dubp_wot.proofs.sentry.d_sen.Goals as goal

pub loop-low-init : goal.loop-low-init
loop-low-init c = record {
  within = omega arith;
  order = omega arith;
  enough = le-pow c.args.members c.args.steps_max c.requires.steps.0;
  below = λ k low. absurd (omega arith);
}

pub loop-low-preserved : goal.loop-low-preserved
loop-low-preserved c =
    let middle = (c.loop-low.low + c.loop-low.high) / 2 in
    elim (cases_lt (middle ^ c.args.steps_max) c.args.members) [
      | inl less ↦ record {
        within = c.loop-low.invariant.within;
        order = omega arith;
        enough = c.loop-low.invariant.enough;
        below = below-too_little c.args.members c.args.steps_max middle less;
      }
      | inr more ↦ absurd (true≢false (sym (c.is_enough.ensures.1 more) ∙ c.if-is_enough.false))
    ]

pub returns-clause-value : goal.returns-clause-value
returns-clause-value c =
    let same : c.loop-low.high ≡ c.loop-low.low = omega arith in
    d_sen_of-least c.args.members c.args.steps_max c.loop-low.low (omega arith)
    (subst (λ z. c.args.members ≤ z ^ c.args.steps_max) same c.loop-low.invariant.enough) c.loop-low.invariant.below
