use Rattle.std.proofs.Common.{arith}
use Rattle.dubp_people_distance.specs.Webs.{HasPassed}
use Rattle.dubp_lists.proofs.Rests.{rests_first, rests_one_more}
use Rattle.dubp_people_distance.proofs.Passing.{fails_all, passes_all}
use Rattle.dubp_people_distance.proofs.rule.lines_pass.Goals as goal

pub loop-line-init : goal.loop-line-init
loop-line-init g c = record { known = c.requires.known; sought = c.requires.sought; rests = λ d shown is among. rests_first (HasPassed d) _ }

pub returns-then-not-branch-clause-pass : goal.returns-then-not-branch-clause-pass
returns-then-not-branch-clause-pass g c = λ d shown is among.
    fails_all (HasPassed d) c.args.lines.now c.loop-line.line-index c.line-item.result _ c.loop-line-test.true c.line-item.is (c.in_ok-line_passes.ensures.passes d shown is among) c.if-not-branch.true
    (c.loop-line.invariant.rests d shown is among)

pub loop-line-preserved : goal.loop-line-preserved
loop-line-preserved g c = record {
  known = c.line_passes.ensures.known;
  sought = c.line_passes.ensures.sought;
  rests = λ d shown is among.
      rests_one_more (HasPassed d) c.args.lines.now c.loop-line.line-index c.line-item.result c.loop-line-test.true c.line-item.is
      ((c.in_ok-line_passes.ensures.passes d shown is among).0 c.if-not-branch.false) (c.loop-line.invariant.rests d shown is among);
}

pub returns-clause-pass : goal.returns-clause-pass
returns-clause-pass g c = λ d shown is among. passes_all (HasPassed d) c.args.lines.now c.loop-line.line-index (omega arith) (c.loop-line.invariant.rests d shown is among)
