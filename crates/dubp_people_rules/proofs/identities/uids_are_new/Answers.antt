use Rattle.std.proofs.Common.{true, false, arith}
use Rattle.dubp_people_rules.specs.Lines.{IsUidNew}
use Rattle.dubp_lists.proofs.Rests.{rests_first, rests_one_more, fails_all, passes_all}
use Rattle.dubp_people_rules.proofs.Sections.{on_lines}
use Rattle.dubp_people_rules.proofs.identities.uids_are_new.Goals as goal

pub loop-line-init : goal.loop-line-init
loop-line-init c = λ ch at sound. rests_first (IsUidNew ch) _

pub returns-then-not-uid_is_new : goal.returns-then-not-uid_is_new
returns-then-not-uid_is_new c = λ ch at sound.
    on_lines (IsUidNew ch) false c.as_slice-lines.ensures
    (fails_all (IsUidNew ch) c.as_slice-lines.result.now c.loop-line.line-index c.line-item.result _ c.loop-line-test.true c.line-item.is (c.uid_is_new.ensures ch at sound) c.if-not-uid_is_new.true
    (c.loop-line.invariant ch at sound))

pub loop-line-preserved : goal.loop-line-preserved
loop-line-preserved c = λ ch at sound.
    rests_one_more (IsUidNew ch) c.as_slice-lines.result.now c.loop-line.line-index c.line-item.result c.loop-line-test.true c.line-item.is ((c.uid_is_new.ensures ch at sound).0 c.if-not-uid_is_new.false)
    (c.loop-line.invariant ch at sound)

pub returns : goal.returns
returns c = λ ch at sound.
    on_lines (IsUidNew ch) true c.as_slice-lines.ensures
    (passes_all (IsUidNew ch) c.as_slice-lines.result.now c.loop-line.line-index (omega arith) (c.loop-line.invariant ch at sound))
