use Rattle.std.proofs.Common.{reverse, subst}
use Rattle.dubp_kept.specs.Asking.{Asks}
use Rattle.dubp_kept.specs.Judged.{Opened}
use Rattle.dubp_kept.proofs.Orders.{opening_breaks}
use Rattle.dubp_kept.proofs.judging.judge_over.Goals as goal

pub returns-in-Breaks : goal.returns-in-Breaks
returns-in-Breaks g c =
    let v = c.args.verdicts.now in
    let chain = reverse c.args.blocks.now in
    opening_breaks (Asks c.args.asked v chain c.args.block.now) c.in-Breaks.rule (subst (Opened c.args.asked v chain c.args.block.now) c.in-Breaks.is c.in_ok-rule.ensures)
