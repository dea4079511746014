use Rattle.std.proofs.Common.{true, false, arith}
use Rattle.dubp_people_rules.specs.Lines.{IsIdentityNew}
use Rattle.dubp_lists.proofs.Rests.{rests_first, rests_one_more, fails_all, passes_all}
use Rattle.dubp_people_rules.proofs.Sections.{on_lines}
use Rattle.dubp_people_rules.proofs.identities.identities_are_new.Goals as goal

pub loop-line-init : goal.loop-line-init
loop-line-init c = λ ch at. rests_first (IsIdentityNew ch) _

pub returns-then-not-identity_is_new : goal.returns-then-not-identity_is_new
returns-then-not-identity_is_new c = λ ch at.
    on_lines (IsIdentityNew ch) false c.as_slice-lines.ensures
    (fails_all (IsIdentityNew ch) c.as_slice-lines.result.now c.loop-line.line-index c.line-item.result _ c.loop-line-test.true c.line-item.is (c.identity_is_new.ensures ch at) c.if-not-identity_is_new.true
    (c.loop-line.invariant ch at))

pub loop-line-preserved : goal.loop-line-preserved
loop-line-preserved c = λ ch at.
    rests_one_more (IsIdentityNew ch) c.as_slice-lines.result.now c.loop-line.line-index c.line-item.result c.loop-line-test.true c.line-item.is ((c.identity_is_new.ensures ch at).0 c.if-not-identity_is_new.false)
    (c.loop-line.invariant ch at)

pub returns : goal.returns
returns c = λ ch at.
    on_lines (IsIdentityNew ch) true c.as_slice-lines.ensures
    (passes_all (IsIdentityNew ch) c.as_slice-lines.result.now c.loop-line.line-index (omega arith) (c.loop-line.invariant ch at))
