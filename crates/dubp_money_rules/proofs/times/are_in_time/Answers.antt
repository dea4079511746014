use borrow.Author.Tests.{tests}
use Rattle.std.proofs.Common.{rules}
use Rattle.std.proofs.lemmas.Iterator.{cases_from_all, YieldsList-from_slice}
use Rattle.dubp_cond.specs.declared.tx.Tx.{Tx}
use Rattle.dubp_money_rules.specs.Lines.{IsTxInTime}
use Rattle.dubp_money_rules.proofs.Every.{every_if_all}
use Rattle.dubp_money_rules.proofs.times.are_in_time.Goals as goal

pub returns : goal.returns
returns c = λ ch at sound.
    let P : Tx → Type 0 = IsTxInTime ch c.args.block.now c.args.next.now in
    every_if_all P c.args.txs.now c.all.result
    (cases_from_all _ _ _ P (λ tx. ¬ P tx) c.all.ensures.ran (YieldsList-from_slice c.args.txs.now cc) (λ x q k. search (rules, tests)) (λ x q k. search (rules, tests)))
