use borrow.Author.Tests.{tests}
use Rattle.std.proofs.Common.{rules, ℕ, List}
use Rattle.std.specs.List.{zip}
use Rattle.std.proofs.lemmas.Iterator.{cases_from_all, YieldsList-from_slice, YieldsList-from_zip}
use Rattle.dubp_verdict.specs.Verdicts.{HasHash}
use Rattle.dubp_local.proofs.Every.{every_if_all}
use Rattle.dubp_local.proofs.signatures.is_signed_by_all.Goals as goal

pub returns : goal.returns
returns c =
    let tx = c.args.tx.now in
    let Signed : List ℕ × List ℕ → Type 0 = λ p. HasHash c.args.verdicts.now p.0 c.args.hash.now p.1 in
    every_if_all Signed (zip tx.issuers tx.sigs) c.all.result
    (cases_from_all c.all.new.self _ _ Signed (λ p. ¬ Signed p) c.all.ensures.ran
    (YieldsList-from_zip (YieldsList-from_slice tx.issuers cc) (YieldsList-from_slice tx.sigs cc))
    (λ x q k. search (rules, tests)) (λ x q k. search (rules, tests)))
