use Rattle.std.proofs.Common.{arith}
use Rattle.dubp_people_rules.specs.Lines.{MayFollowLast}
use Rattle.dubp_lists.proofs.Rests.{rests_first, rests_one_more, fails_all, passes_all}
use Rattle.dubp_people_rules.proofs.certifications.may_all_follow.Goals as goal

pub loop-line-init : goal.loop-line-init
loop-line-init c = λ ch at. rests_first (MayFollowLast ch c.args.block.now c.args.next.now) _

pub returns-then-not-may_follow_last : goal.returns-then-not-may_follow_last
returns-then-not-may_follow_last c = λ ch at.
    fails_all (MayFollowLast ch c.args.block.now c.args.next.now) c.args.lines.now c.loop-line.line-index c.line-item.result _ c.loop-line-test.true c.line-item.is (c.may_follow_last.ensures ch at) c.if-not-may_follow_last.true
    (c.loop-line.invariant ch at)

pub loop-line-preserved : goal.loop-line-preserved
loop-line-preserved c = λ ch at.
    rests_one_more (MayFollowLast ch c.args.block.now c.args.next.now) c.args.lines.now c.loop-line.line-index c.line-item.result c.loop-line-test.true c.line-item.is ((c.may_follow_last.ensures ch at).0 c.if-not-may_follow_last.false)
    (c.loop-line.invariant ch at)

pub returns : goal.returns
returns c = λ ch at.
    passes_all (MayFollowLast ch c.args.block.now c.args.next.now) c.args.lines.now c.loop-line.line-index (omega arith) (c.loop-line.invariant ch at)
