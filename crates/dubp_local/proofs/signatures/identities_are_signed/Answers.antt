use borrow.Author.Tests.{tests}
use Rattle.std.proofs.Common.{rules}
use Rattle.std.proofs.lemmas.Iterator.{cases_from_all, YieldsList-from_slice}
use Rattle.dubp_block.specs.declared.block.IdentityLine.{IdentityLine}
use Rattle.dubp_local.specs.Parts.{IsSignedIdentity}
use Rattle.dubp_local.proofs.Every.{every_if_all}
use Rattle.dubp_local.proofs.signatures.identities_are_signed.Goals as goal

pub returns : goal.returns
returns c =
    let Signed : IdentityLine → Type 0 = IsSignedIdentity c.args.verdicts.now c.args.block.now.currency in
    every_if_all Signed c.args.block.now.identities c.all.result
    (cases_from_all _ _ _ Signed (λ line. ¬ Signed line) c.all.ensures.ran (YieldsList-from_slice c.args.block.now.identities cc) (λ x q k. search (rules, tests)) (λ x q k. search (rules, tests)))
