use Rattle.std.proofs.Common.{◌<◌, length, List, subst}
use Rattle.dubp_cond.specs.declared.source.Input.{Input}
use Rattle.dubp_validity.specs.MoneyRules.{IsOpened}
use Rattle.dubp_money_rules.specs.Spending.{at_hand}
use Rattle.dubp_money_rules.proofs.Each.{place_fails, place_holds}
use Rattle.dubp_money_rules.proofs.conditions.inputs_are_opened.Goals as goal

pub returns-then-not-branch : goal.returns-then-not-branch
returns-then-not-branch c = λ ch at read once.
    let below : c.loop-place.place < length c.args.tx.now.inputs = subst (λ (l : List Input). c.loop-place.place < length l) c.as_slice-inputs.ensures c.loop-place-test.true in
    place_fails (IsOpened c.args.time c.args.tx.now (at_hand c.args.time ch c.args.block.now c.args.number)) c.args.tx.now.inputs c.as_slice-inputs.result.now c.loop-place.place c.index-inputs-place.result _
    c.as_slice-inputs.ensures c.loop-place-test.true c.index-inputs-place.is (c.in_ok-is_opened.ensures ch at read (once c.loop-place.place below)) c.if-not-branch.true

pub loop-place-preserved : goal.loop-place-preserved
loop-place-preserved c = λ ch at read once.
    let below : c.loop-place.place < length c.args.tx.now.inputs = subst (λ (l : List Input). c.loop-place.place < length l) c.as_slice-inputs.ensures c.loop-place-test.true in
    place_holds (IsOpened c.args.time c.args.tx.now (at_hand c.args.time ch c.args.block.now c.args.number)) c.args.tx.now.inputs c.as_slice-inputs.result.now c.loop-place.place c.index-inputs-place.result _
    c.as_slice-inputs.ensures c.loop-place-test.true c.index-inputs-place.is (c.in_ok-is_opened.ensures ch at read (once c.loop-place.place below)) c.if-not-branch.false (c.loop-place.invariant ch at read once)
