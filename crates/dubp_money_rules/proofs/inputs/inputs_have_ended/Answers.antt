use borrow.Author.Tests.{tests}
use Rattle.std.proofs.Common.{rules}
use Rattle.std.proofs.lemmas.Iterator.{cases_from_all, YieldsList-from_slice}
use Rattle.dubp_cond.specs.declared.source.Input.{Input}
use Rattle.dubp_money_rules.specs.Spending.{HasEnded, at_hand}
use Rattle.dubp_money_rules.proofs.Every.{every_if_all}
use Rattle.dubp_money_rules.proofs.inputs.inputs_have_ended.Goals as goal

pub returns : goal.returns
returns c = λ ch at sound numbered.
    let P : Input → Type 0 = HasEnded c.args.time c.args.locktime (at_hand c.args.time ch c.args.block.now c.args.number) in
    every_if_all P c.args.inputs.now c.all.result
    (cases_from_all _ _ _ P (λ input. ¬ P input) c.all.ensures.ran (YieldsList-from_slice c.args.inputs.now cc) (λ x q k. search (rules, tests)) (λ x q k. search (rules, tests)))
