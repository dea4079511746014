use Rattle.dubp_money_rules.specs.Spending.{AreOpened}
use Rattle.dubp_money_rules.proofs.Each.{StandsAt, some_fails, one_more, unlocked_at}
use Rattle.dubp_money_rules.proofs.conditions.all_are_opened.Goals as goal

pub returns-then-not-branch : goal.returns-then-not-branch
returns-then-not-branch c = λ ch at read once.
    let here : StandsAt c.args.block.now c.as_slice-txs.result.now c.loop-i.i c.index-txs-i.result = record { same = c.as_slice-txs.ensures; below = c.loop-i-test.true; is = c.index-txs-i.is } in
    some_fails (AreOpened c.args.time) c.args.time ch c.args.block.now c.as_slice-txs.result.now c.loop-i.i c.index-txs-i.result here _
    (c.in_ok-inputs_are_opened.ensures ch at read (unlocked_at c.args.block.now c.as_slice-txs.result.now c.loop-i.i c.index-txs-i.result here once)) c.if-not-branch.true

pub loop-i-preserved : goal.loop-i-preserved
loop-i-preserved c = λ ch at read once.
    let here : StandsAt c.args.block.now c.as_slice-txs.result.now c.loop-i.i c.index-txs-i.result = record { same = c.as_slice-txs.ensures; below = c.loop-i-test.true; is = c.index-txs-i.is } in
    one_more (AreOpened c.args.time) c.args.time ch c.args.block.now c.as_slice-txs.result.now c.loop-i.i c.index-txs-i.result here _
    (c.in_ok-inputs_are_opened.ensures ch at read (unlocked_at c.args.block.now c.as_slice-txs.result.now c.loop-i.i c.index-txs-i.result here once)) c.if-not-branch.false (c.loop-i.invariant ch at read once)
