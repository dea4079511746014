use Rattle.std.proofs.Common.{List, subst}
use Rattle.dubp_choosing.specs.States.{IsTipOf}
use Rattle.dubp_choosing.proofs.Resolving.{resolved_none, resolving_start}
use Rattle.dubp_replay.specs.declared.failure.Failure.{Failure}
use Rattle.dubp_turns.specs.Choosing.{TriedOne}
use Rattle.dubp_turns.proofs.Choices.{switched_then, tried_fewer, tried_more}
use Rattle.dubp_turns.proofs.Offers.{stored_offers}
use Rattle.dubp_turns.proofs.choosing.try_all.Goals as goal

pub choices-init : goal.choices-init
choices-init g c = resolving_start c.args.lines.now.items c.args.branches.now c.args.failures.now.items c.requires

pub returns-in_default-clause-chosen : goal.returns-in_default-clause-chosen
returns-in_default-clause-chosen g c =
    let l = c.choices in
    resolved_none c.args.lines.now.items l.lines.items c.args.branches.now l.branches c.args.failures.now.items l.failures.items l.invariant
    (subst (IsTipOf l.branches l.failures.items) c.in_default.is (subst (λ (fs : List Failure). IsTipOf l.branches fs c.in_ok-tip.field-0) c.as_slice.ensures.value c.in_ok-tip.ensures))

pub returns-then-branch-clause-chosen : goal.returns-then-branch-clause-chosen
returns-then-branch-clause-chosen g c =
    let l = c.choices in
    let n = c.try_one.new in
    switched_then c.args.lines.now.items l.lines.items c.args.branches.now l.branches c.args.failures.now.items l.failures.items c.in-Some.tip n.branches n.failures.items n.lines.items l.invariant
    (subst (IsTipOf l.branches l.failures.items) c.in-Some.is (subst (λ (fs : List Failure). IsTipOf l.branches fs c.in_ok-tip.field-0) c.as_slice.ensures.value c.in_ok-tip.ensures))
    (subst (λ done. TriedOne l.branches l.failures.items l.lines.items c.in-Some.tip done n.branches n.failures.items n.lines.items) c.if-branch.true c.in_ok-try_one.ensures.tried)

pub choices-smaller : goal.choices-smaller
choices-smaller g c =
    let l = c.choices in
    let n = c.try_one.new in
    tried_fewer c.args.lines.now.items l.lines.items c.args.branches.now l.branches c.args.failures.now.items l.failures.items c.in-Some.tip n.branches n.failures.items n.lines.items l.invariant
    (subst (IsTipOf l.branches l.failures.items) c.in-Some.is (subst (λ (fs : List Failure). IsTipOf l.branches fs c.in_ok-tip.field-0) c.as_slice.ensures.value c.in_ok-tip.ensures))
    (stored_offers l.branches.store c.laws.ensures.stored)
    (subst (λ done. TriedOne l.branches l.failures.items l.lines.items c.in-Some.tip done n.branches n.failures.items n.lines.items) c.if-branch.false c.in_ok-try_one.ensures.tried)

pub choices-preserved : goal.choices-preserved
choices-preserved g c =
    let l = c.choices in
    let n = c.try_one.new in
    tried_more c.args.lines.now.items l.lines.items c.args.branches.now l.branches c.args.failures.now.items l.failures.items c.in-Some.tip n.branches n.failures.items n.lines.items l.invariant
    (subst (IsTipOf l.branches l.failures.items) c.in-Some.is (subst (λ (fs : List Failure). IsTipOf l.branches fs c.in_ok-tip.field-0) c.as_slice.ensures.value c.in_ok-tip.ensures))
    (stored_offers l.branches.store c.laws.ensures.stored)
    (subst (λ done. TriedOne l.branches l.failures.items l.lines.items c.in-Some.tip done n.branches n.failures.items n.lines.items) c.if-branch.false c.in_ok-try_one.ensures.tried)
