use Rattle.std.proofs.Common.{◌≡◌, subst}
use Rattle.std.proofs.lemmas.Result.{IfErr-weaker, IfOk-weaker}
use Rattle.dubp_drafts.specs.Sealing.{IsSealed}
use Rattle.dubp_ledger.specs.States.{IsDifficulty}
use Rattle.dubp_gen.specs.declared.chain.GenRefusal.TheVariants.{NoNonce}
use Rattle.dubp_gen.specs.Generated.{HasNoNonce, HasNoSeal}
use Rattle.dubp_gen.specs.Making.{IsSealedBlock}
use Rattle.dubp_gen.proofs.Sealing.{later_sealed, no_later, no_member}
use Rattle.dubp_gen.proofs.next.seal_later.Goals as goal

pub returns-in-Ok-Some-clause-sealed : goal.returns-in-Ok-Some-clause-sealed
returns-in-Ok-Some-clause-sealed g c =
    let chain = c.args.ledger.now.chain in
    let d = c.args.draft in
    let found = c.in-Ok-Some in
    IfOk-weaker c.seal_for.result (IsSealed c.in-Ok.block found.difficulty) (IsSealedBlock chain d) (λ s h. later_sealed chain d c.in-Ok.block found.difficulty s c.requires.some c.in-Ok.ensures.filled (subst (IsDifficulty chain c.in-Ok.block.issuer) found.field-0-is found.ensures.value) h) c.seal_for.ensures.sealed

pub returns-in-Ok-Some-clause-ended : goal.returns-in-Ok-Some-clause-ended
returns-in-Ok-Some-clause-ended g c =
    let chain = c.args.ledger.now.chain in
    let d = c.args.draft in
    let n = c.len-number.result in
    let found = c.in-Ok-Some in
    IfErr-weaker c.seal_for.result (λ refusal. (refusal ≡ NoNonce n) × HasNoNonce c.in-Ok.block found.difficulty) (HasNoSeal chain d) (λ refusal h. no_later chain d c.in-Ok.block found.difficulty n refusal c.requires.some c.in-Ok.ensures.filled (subst (IsDifficulty chain c.in-Ok.block.issuer) found.field-0-is found.ensures.value) c.len-number.ensures h.0 h.1) c.seal_for.ensures.ended

pub returns-in-Ok-None-clause-ended : goal.returns-in-Ok-None-clause-ended
returns-in-Ok-None-clause-ended g c = no_member c.args.ledger.now.chain c.args.draft c.in-Ok.block c.len-number.result c.requires.some c.in-Ok.ensures.filled (subst (IsDifficulty c.args.ledger.now.chain c.in-Ok.block.issuer) c.in-Ok-None.field-0-is c.in-Ok-None.ensures.value) c.len-number.ensures
