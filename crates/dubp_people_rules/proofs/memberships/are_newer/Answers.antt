use Rattle.std.proofs.Common.{arith}
use Rattle.dubp_people_rules.specs.Lines.{IsMembershipNewer}
use Rattle.dubp_lists.proofs.Rests.{rests_first, rests_one_more, fails_all, passes_all}
use Rattle.dubp_people_rules.proofs.memberships.are_newer.Goals as goal

pub loop-line-init : goal.loop-line-init
loop-line-init c = λ ch at. rests_first (IsMembershipNewer ch) _

pub returns-then-not-is_newer : goal.returns-then-not-is_newer
returns-then-not-is_newer c = λ ch at.
    fails_all (IsMembershipNewer ch) c.args.lines.now c.loop-line.line-index c.line-item.result _ c.loop-line-test.true c.line-item.is (c.is_newer.ensures ch at) c.if-not-is_newer.true
    (c.loop-line.invariant ch at)

pub loop-line-preserved : goal.loop-line-preserved
loop-line-preserved c = λ ch at.
    rests_one_more (IsMembershipNewer ch) c.args.lines.now c.loop-line.line-index c.line-item.result c.loop-line-test.true c.line-item.is ((c.is_newer.ensures ch at).0 c.if-not-is_newer.false)
    (c.loop-line.invariant ch at)

pub returns : goal.returns
returns c = λ ch at.
    passes_all (IsMembershipNewer ch) c.args.lines.now c.loop-line.line-index (omega arith) (c.loop-line.invariant ch at)
