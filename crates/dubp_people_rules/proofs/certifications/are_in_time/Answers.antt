use Rattle.std.proofs.Common.{arith}
use Rattle.dubp_people_rules.specs.Lines.{IsCertificationInTime}
use Rattle.dubp_lists.proofs.Rests.{rests_first, rests_one_more, fails_all, passes_all}
use Rattle.dubp_people_rules.proofs.certifications.are_in_time.Goals as goal

pub loop-line-init : goal.loop-line-init
loop-line-init c = λ ch at. rests_first (IsCertificationInTime ch c.args.block.now c.args.next.now) _

pub returns-then-not-is_in_time : goal.returns-then-not-is_in_time
returns-then-not-is_in_time c = λ ch at.
    fails_all (IsCertificationInTime ch c.args.block.now c.args.next.now) c.args.lines.now c.loop-line.line-index c.line-item.result _ c.loop-line-test.true c.line-item.is (c.is_in_time.ensures ch at) c.if-not-is_in_time.true
    (c.loop-line.invariant ch at)

pub loop-line-preserved : goal.loop-line-preserved
loop-line-preserved c = λ ch at.
    rests_one_more (IsCertificationInTime ch c.args.block.now c.args.next.now) c.args.lines.now c.loop-line.line-index c.line-item.result c.loop-line-test.true c.line-item.is ((c.is_in_time.ensures ch at).0 c.if-not-is_in_time.false)
    (c.loop-line.invariant ch at)

pub returns : goal.returns
returns c = λ ch at.
    passes_all (IsCertificationInTime ch c.args.block.now c.args.next.now) c.args.lines.now c.loop-line.line-index (omega arith) (c.loop-line.invariant ch at)
