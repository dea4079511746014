use Rattle.std.proofs.Common.{true, false, arith}
use Rattle.dubp_people_rules.specs.Lines.{IsRevocationSigned}
use Rattle.dubp_lists.proofs.Rests.{rests_first, rests_one_more, fails_all, passes_all}
use Rattle.dubp_people_rules.proofs.Sections.{on_lines}
use Rattle.dubp_people_rules.proofs.revocations.revocations_are_signed.Goals as goal

pub loop-line-init : goal.loop-line-init
loop-line-init c = λ ch at. rests_first (IsRevocationSigned c.args.verdicts.now ch c.args.block.now) _

pub returns-then-not-revocation_is_signed : goal.returns-then-not-revocation_is_signed
returns-then-not-revocation_is_signed c = λ ch at.
    on_lines (IsRevocationSigned c.args.verdicts.now ch c.args.block.now) false c.as_slice-lines.ensures
    (fails_all (IsRevocationSigned c.args.verdicts.now ch c.args.block.now) c.as_slice-lines.result.now c.loop-line.line-index c.line-item.result _ c.loop-line-test.true c.line-item.is (c.revocation_is_signed.ensures ch at) c.if-not-revocation_is_signed.true
    (c.loop-line.invariant ch at))

pub loop-line-preserved : goal.loop-line-preserved
loop-line-preserved c = λ ch at.
    rests_one_more (IsRevocationSigned c.args.verdicts.now ch c.args.block.now) c.as_slice-lines.result.now c.loop-line.line-index c.line-item.result c.loop-line-test.true c.line-item.is ((c.revocation_is_signed.ensures ch at).0 c.if-not-revocation_is_signed.false)
    (c.loop-line.invariant ch at)

pub returns : goal.returns
returns c = λ ch at.
    on_lines (IsRevocationSigned c.args.verdicts.now ch c.args.block.now) true c.as_slice-lines.ensures
    (passes_all (IsRevocationSigned c.args.verdicts.now ch c.args.block.now) c.as_slice-lines.result.now c.loop-line.line-index (omega arith) (c.loop-line.invariant ch at))
