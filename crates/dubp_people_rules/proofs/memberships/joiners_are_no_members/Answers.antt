use Rattle.std.proofs.Common.{true, false, arith}
use Rattle.dubp_people_rules.specs.Lines.{IsNoMember}
use Rattle.dubp_lists.proofs.Rests.{rests_first, rests_one_more, fails_all, passes_all}
use Rattle.dubp_people_rules.proofs.Sections.{on_lines}
use Rattle.dubp_people_rules.proofs.memberships.joiners_are_no_members.Goals as goal

pub loop-line-init : goal.loop-line-init
loop-line-init c = λ ch at sound. rests_first (IsNoMember ch) _

pub returns-then-not-is_no_member : goal.returns-then-not-is_no_member
returns-then-not-is_no_member c = λ ch at sound.
    on_lines (IsNoMember ch) false c.as_slice-lines.ensures
    (fails_all (IsNoMember ch) c.as_slice-lines.result.now c.loop-line.line-index c.line-item.result _ c.loop-line-test.true c.line-item.is (c.is_no_member.ensures ch at sound) c.if-not-is_no_member.true
    (c.loop-line.invariant ch at sound))

pub loop-line-preserved : goal.loop-line-preserved
loop-line-preserved c = λ ch at sound.
    rests_one_more (IsNoMember ch) c.as_slice-lines.result.now c.loop-line.line-index c.line-item.result c.loop-line-test.true c.line-item.is ((c.is_no_member.ensures ch at sound).0 c.if-not-is_no_member.false)
    (c.loop-line.invariant ch at sound)

pub returns : goal.returns
returns c = λ ch at sound.
    on_lines (IsNoMember ch) true c.as_slice-lines.ensures
    (passes_all (IsNoMember ch) c.as_slice-lines.result.now c.loop-line.line-index (omega arith) (c.loop-line.invariant ch at sound))
