use Rattle.std.proofs.Common.{arith}
use Rattle.dubp_people_rules.specs.Lines.{HasIssuerWaited}
use Rattle.dubp_lists.proofs.Rests.{rests_first, rests_one_more, fails_all, passes_all}
use Rattle.dubp_people_rules.proofs.certifications.all_issuers_waited.Goals as goal

pub loop-line-init : goal.loop-line-init
loop-line-init c = λ ch at sound. rests_first (HasIssuerWaited ch c.args.next.now) _

pub returns-then-not-issuer_has_waited : goal.returns-then-not-issuer_has_waited
returns-then-not-issuer_has_waited c = λ ch at sound.
    fails_all (HasIssuerWaited ch c.args.next.now) c.args.lines.now c.loop-line.line-index c.line-item.result _ c.loop-line-test.true c.line-item.is (c.issuer_has_waited.ensures ch at sound) c.if-not-issuer_has_waited.true
    (c.loop-line.invariant ch at sound)

pub loop-line-preserved : goal.loop-line-preserved
loop-line-preserved c = λ ch at sound.
    rests_one_more (HasIssuerWaited ch c.args.next.now) c.args.lines.now c.loop-line.line-index c.line-item.result c.loop-line-test.true c.line-item.is ((c.issuer_has_waited.ensures ch at sound).0 c.if-not-issuer_has_waited.false)
    (c.loop-line.invariant ch at sound)

pub returns : goal.returns
returns c = λ ch at sound.
    passes_all (HasIssuerWaited ch c.args.next.now) c.args.lines.now c.loop-line.line-index (omega arith) (c.loop-line.invariant ch at sound)
