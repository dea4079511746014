use Rattle.dubp_money_rules.specs.Spending.{AreThere}
use Rattle.dubp_money_rules.proofs.Each.{StandsAt, some_fails, one_more}
use Rattle.dubp_money_rules.proofs.inputs.all_are_there.Goals as goal

pub returns-then-not-are_there : goal.returns-then-not-are_there
returns-then-not-are_there c = λ ch at sound numbered.
    let here : StandsAt c.args.block.now c.as_slice-txs.result.now c.loop-i.i c.index-txs-i.result = record { same = c.as_slice-txs.ensures; below = c.loop-i-test.true; is = c.index-txs-i.is } in
    some_fails AreThere c.args.time ch c.args.block.now c.as_slice-txs.result.now c.loop-i.i c.index-txs-i.result here c.are_there.result (c.are_there.ensures ch at sound numbered) c.if-not-are_there.true

pub loop-i-preserved : goal.loop-i-preserved
loop-i-preserved c = λ ch at sound numbered.
    let here : StandsAt c.args.block.now c.as_slice-txs.result.now c.loop-i.i c.index-txs-i.result = record { same = c.as_slice-txs.ensures; below = c.loop-i-test.true; is = c.index-txs-i.is } in
    one_more AreThere c.args.time ch c.args.block.now c.as_slice-txs.result.now c.loop-i.i c.index-txs-i.result here c.are_there.result (c.are_there.ensures ch at sound numbered) c.if-not-are_there.false (c.loop-i.invariant ch at sound numbered)
