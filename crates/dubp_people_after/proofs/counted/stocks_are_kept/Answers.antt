use Rattle.std.proofs.Common.{arith}
use Rattle.dubp_people_after.specs.Lines.{KeepsStock}
use Rattle.dubp_lists.proofs.Rests.{rests_first, rests_one_more}
use Rattle.dubp_people_after.proofs.Enough.{stocks_fail, stocks_pass}
use Rattle.dubp_people_after.proofs.counted.stocks_are_kept.Goals as goal

pub loop-line-init : goal.loop-line-init
loop-line-init g c = λ chain shown. rests_first (KeepsStock chain c.args.block.now) _

pub returns-then-not-branch : goal.returns-then-not-branch
returns-then-not-branch g c = λ chain shown.
    let b = c.args.block.now in
    stocks_fail chain b _ c.loop-line.line-index c.line-item.result _ c.as_slice-lines.ensures c.loop-line-test.true c.line-item.is
    (c.in_ok-keeps_stock.ensures chain b shown) c.if-not-branch.true (c.loop-line.invariant chain shown)

pub loop-line-preserved : goal.loop-line-preserved
loop-line-preserved g c = λ chain shown.
    let b = c.args.block.now in
    rests_one_more (KeepsStock chain b) _ c.loop-line.line-index c.line-item.result c.loop-line-test.true c.line-item.is
    ((c.in_ok-keeps_stock.ensures chain b shown).0 c.if-not-branch.false) (c.loop-line.invariant chain shown)

pub returns : goal.returns
returns g c = λ chain shown.
    stocks_pass chain c.args.block.now _ c.loop-line.line-index c.as_slice-lines.ensures (omega arith) (c.loop-line.invariant chain shown)
