use borrow.Author.Tests.{tests}
use Rattle.std.proofs.Common.{rules}
use Rattle.std.proofs.lemmas.Iterator.{cases_from_all, YieldsList-from_slice}
use Rattle.dubp_block.specs.declared.block.MemberLine.{MemberLine}
use Rattle.dubp_local.specs.Directions.{comes_in}
use Rattle.dubp_local.specs.Parts.{IsSignedMembership}
use Rattle.dubp_local.proofs.Every.{every_if_all}
use Rattle.dubp_local.proofs.signatures.are_signed.Goals as goal

pub returns : goal.returns
returns c =
    let Signed : MemberLine → Type 0 = IsSignedMembership c.args.verdicts.now c.args.currency.now (comes_in c.args.direction) in
    every_if_all Signed c.args.lines.now c.all.result
    (cases_from_all _ _ _ Signed (λ line. ¬ Signed line) c.all.ensures.ran (YieldsList-from_slice c.args.lines.now cc) (λ x q k. search (rules, tests)) (λ x q k. search (rules, tests)))
