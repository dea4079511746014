use Rattle.std.proofs.Common.{◌≡◌, ap, arith, length, subst, sym}
use Rattle.std.specs.List.{AllByRecursion}
use Rattle.dubp_forging_laws.specs.Laws.{IsTransaction}
use Rattle.dubp_forge.specs.Runs.{run_of}
use Rattle.dubp_forge.specs.Steps.{docs_of}
use Rattle.dubp_forge.proofs.RunSteps.{all_both, run_more, run_none, there_at}
use Rattle.dubp_forge.proofs.asking.Forge.run_end.Goals as goal

pub loop-end-init : goal.loop-end-init
loop-end-init g c =
    let f = c.args.self.now in
    subst (AllByRecursion IsTransaction) (sym (run_none (docs_of f c.args.draft.now) f.pool c.args.place)) tt

pub returns-then-not-may_run-clause-run : goal.returns-then-not-may_run-clause-run
returns-then-not-may_run-clause-run g c = c.loop-end.invariant

pub loop-end-preserved : goal.loop-end-preserved
loop-end-preserved g c =
    let f = c.args.self.now in
    let e = c.loop-end.end in
    let there = there_at f.pool e (omega (arith, c.loop-end-test.true, c.min-last.ensures, c.held.ensures, ap (λ x. length x.pool) c.self.view_is)) in
    subst (AllByRecursion IsTransaction) (sym (run_more (docs_of f c.args.draft.now) f.pool c.args.place e c.loop-end.auto.end there.0 there.1))
    (all_both _ _ c.loop-end.invariant (c.may_run.ensures c.if-not-may_run.false there.0 there.1))

pub returns-clause-run : goal.returns-clause-run
returns-clause-run g c =
    let f = c.args.self.now in
    let last : c.loop-end.end ≡ c.min-last.result = omega (arith, c.loop-end-test.false, c.loop-end.auto.end-end, c.min-last.ensures, c.saturating_add.ensures, c.held.ensures, ap (λ x. length x.pool) c.self.view_is, c.requires.within, c.ranges.place.fits) in
    subst (λ e. AllByRecursion IsTransaction (run_of f c.args.draft.now c.args.place e)) last c.loop-end.invariant
