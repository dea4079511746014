use Rattle.std.proofs.Common.{arith}
use Rattle.dubp_people_rules.specs.Lines.{IsNotRevoked}
use Rattle.dubp_lists.proofs.Rests.{rests_first, rests_one_more, fails_all, passes_all}
use Rattle.dubp_people_rules.proofs.memberships.are_not_revoked.Goals as goal

pub loop-line-init : goal.loop-line-init
loop-line-init c = λ ch at sound. rests_first (IsNotRevoked ch) _

pub returns-then-not-is_not_revoked : goal.returns-then-not-is_not_revoked
returns-then-not-is_not_revoked c = λ ch at sound.
    fails_all (IsNotRevoked ch) c.args.lines.now c.loop-line.line-index c.line-item.result _ c.loop-line-test.true c.line-item.is (c.is_not_revoked.ensures ch at sound) c.if-not-is_not_revoked.true
    (c.loop-line.invariant ch at sound)

pub loop-line-preserved : goal.loop-line-preserved
loop-line-preserved c = λ ch at sound.
    rests_one_more (IsNotRevoked ch) c.args.lines.now c.loop-line.line-index c.line-item.result c.loop-line-test.true c.line-item.is ((c.is_not_revoked.ensures ch at sound).0 c.if-not-is_not_revoked.false)
    (c.loop-line.invariant ch at sound)

pub returns : goal.returns
returns c = λ ch at sound.
    passes_all (IsNotRevoked ch) c.args.lines.now c.loop-line.line-index (omega arith) (c.loop-line.invariant ch at sound)
