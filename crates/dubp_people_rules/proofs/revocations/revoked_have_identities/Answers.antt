use Rattle.std.proofs.Common.{true, false, arith}
use Rattle.dubp_people_rules.specs.Lines.{MayBeRevoked}
use Rattle.dubp_lists.proofs.Rests.{rests_first, rests_one_more, fails_all, passes_all}
use Rattle.dubp_people_rules.proofs.Sections.{on_lines}
use Rattle.dubp_people_rules.proofs.revocations.revoked_have_identities.Goals as goal

pub loop-line-init : goal.loop-line-init
loop-line-init c = λ ch at sound. rests_first (MayBeRevoked ch) _

pub returns-then-not-may_be_revoked : goal.returns-then-not-may_be_revoked
returns-then-not-may_be_revoked c = λ ch at sound.
    on_lines (MayBeRevoked ch) false c.as_slice-lines.ensures
    (fails_all (MayBeRevoked ch) c.as_slice-lines.result.now c.loop-line.line-index c.line-item.result _ c.loop-line-test.true c.line-item.is (c.may_be_revoked.ensures ch at sound) c.if-not-may_be_revoked.true
    (c.loop-line.invariant ch at sound))

pub loop-line-preserved : goal.loop-line-preserved
loop-line-preserved c = λ ch at sound.
    rests_one_more (MayBeRevoked ch) c.as_slice-lines.result.now c.loop-line.line-index c.line-item.result c.loop-line-test.true c.line-item.is ((c.may_be_revoked.ensures ch at sound).0 c.if-not-may_be_revoked.false)
    (c.loop-line.invariant ch at sound)

pub returns : goal.returns
returns c = λ ch at sound.
    on_lines (MayBeRevoked ch) true c.as_slice-lines.ensures
    (passes_all (MayBeRevoked ch) c.as_slice-lines.result.now c.loop-line.line-index (omega arith) (c.loop-line.invariant ch at sound))
