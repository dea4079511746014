use Rattle.std.proofs.Common.{true}
use Rattle.dubp_block.specs.declared.block.MemberLine.{MemberLine}
use Rattle.dubp_local.specs.Parts.{IsSignedMembership}
use Rattle.dubp_local.proofs.Every.{every_append, every_before, every_behind}
use Rattle.dubp_local.proofs.signatures.comers_are_signed.Goals as goal

pub returns-then-are_signed : goal.returns-then-are_signed
returns-then-are_signed c =
    let b = c.args.block.now in
    let Signed : MemberLine → Type 0 = IsSignedMembership c.args.verdicts.now b.currency true in
    let first = rw c.as_slice-joiners.ensures at (c.are_signed.ensures.0 c.if-are_signed.true) in
    let second = rw c.as_slice-actives.ensures at c.are_signed-then-are_signed.ensures in
    (λ answer. every_append Signed b.joiners b.actives first (second.0 answer), λ each. second.1 (every_behind Signed b.joiners b.actives each))

pub returns-else-are_signed : goal.returns-else-are_signed
returns-else-are_signed c =
    let b = c.args.block.now in
    let Signed : MemberLine → Type 0 = IsSignedMembership c.args.verdicts.now b.currency true in
    let first = rw c.as_slice-joiners.ensures at c.are_signed.ensures in
    (λ answer. absurd (cc (answer, c.if-are_signed.false)), λ each. first.1 (every_before Signed b.joiners b.actives each))
