use Rattle.dubp_money_rules.specs.Spending.{HaveEnded}
use Rattle.dubp_money_rules.proofs.Each.{StandsAt, some_fails, one_more}
use Rattle.dubp_money_rules.proofs.inputs.all_have_ended.Goals as goal

pub returns-then-not-have_ended : goal.returns-then-not-have_ended
returns-then-not-have_ended c = λ ch at sound numbered.
    let here : StandsAt c.args.block.now c.as_slice-txs.result.now c.loop-i.i c.index-txs-i.result = record { same = c.as_slice-txs.ensures; below = c.loop-i-test.true; is = c.index-txs-i.is } in
    some_fails (HaveEnded c.args.time) c.args.time ch c.args.block.now c.as_slice-txs.result.now c.loop-i.i c.index-txs-i.result here c.have_ended.result (c.have_ended.ensures ch at sound numbered) c.if-not-have_ended.true

pub loop-i-preserved : goal.loop-i-preserved
loop-i-preserved c = λ ch at sound numbered.
    let here : StandsAt c.args.block.now c.as_slice-txs.result.now c.loop-i.i c.index-txs-i.result = record { same = c.as_slice-txs.ensures; below = c.loop-i-test.true; is = c.index-txs-i.is } in
    one_more (HaveEnded c.args.time) c.args.time ch c.args.block.now c.as_slice-txs.result.now c.loop-i.i c.index-txs-i.result here c.have_ended.result (c.have_ended.ensures ch at sound numbered) c.if-not-have_ended.false (c.loop-i.invariant ch at sound numbered)
