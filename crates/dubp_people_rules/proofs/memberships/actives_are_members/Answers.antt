use Rattle.std.proofs.Common.{true, false, arith}
use Rattle.dubp_people_rules.specs.Lines.{IsMember}
use Rattle.dubp_lists.proofs.Rests.{rests_first, rests_one_more, fails_all, passes_all}
use Rattle.dubp_people_rules.proofs.Sections.{on_lines}
use Rattle.dubp_people_rules.proofs.memberships.actives_are_members.Goals as goal

pub loop-line-init : goal.loop-line-init
loop-line-init c = λ ch at sound. rests_first (IsMember ch) _

pub returns-then-not-is_member : goal.returns-then-not-is_member
returns-then-not-is_member c = λ ch at sound.
    on_lines (IsMember ch) false c.as_slice-lines.ensures
    (fails_all (IsMember ch) c.as_slice-lines.result.now c.loop-line.line-index c.line-item.result _ c.loop-line-test.true c.line-item.is (c.is_member.ensures ch at sound) c.if-not-is_member.true
    (c.loop-line.invariant ch at sound))

pub loop-line-preserved : goal.loop-line-preserved
loop-line-preserved c = λ ch at sound.
    rests_one_more (IsMember ch) c.as_slice-lines.result.now c.loop-line.line-index c.line-item.result c.loop-line-test.true c.line-item.is ((c.is_member.ensures ch at sound).0 c.if-not-is_member.false)
    (c.loop-line.invariant ch at sound)

pub returns : goal.returns
returns c = λ ch at sound.
    on_lines (IsMember ch) true c.as_slice-lines.ensures
    (passes_all (IsMember ch) c.as_slice-lines.result.now c.loop-line.line-index (omega arith) (c.loop-line.invariant ch at sound))
