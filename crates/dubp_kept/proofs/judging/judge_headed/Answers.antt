use Rattle.std.proofs.Common.{None, Some, reverse, subst}
use Rattle.dubp_rules.specs.First.{IsFirst}
use Rattle.dubp_head.specs.NextHead.{HeaderHolds}
use Rattle.dubp_kept.specs.Asking.{Asks, asked_header}
use Rattle.dubp_kept.proofs.Orders.{header_breaks, header_holds}
use Rattle.dubp_kept.proofs.Heads.{range_with, over_with, are_heads_with, header_found, head_fits, to_judge}
use Rattle.dubp_kept.proofs.judging.judge_headed.Goals as goal

pub first_of_header-requires-clause-valid : goal.first_of_header-requires-clause-valid
first_of_header-requires-clause-valid g c =
    let r = c.requires in
    range_with c.args.asked c.args.verdicts.now (reverse c.args.blocks.now) c.args.block.now c.args.heads.now c.args.params.now r.known r.text r.opening r.params

pub first_of_header-requires-clause-over : goal.first_of_header-requires-clause-over
first_of_header-requires-clause-over g c =
    let r = c.requires in
    over_with c.args.asked c.args.verdicts.now (reverse c.args.blocks.now) c.args.block.now c.args.heads.now c.args.params.now r.known r.text r.opening r.params

pub first_of_header-requires-clause-heads : goal.first_of_header-requires-clause-heads
first_of_header-requires-clause-heads g c =
    let r = c.requires in
    are_heads_with c.args.asked c.args.verdicts.now (reverse c.args.blocks.now) c.args.block.now c.args.heads.now c.args.params.now r.known r.text r.opening r.params

pub returns-in-Some : goal.returns-in-Some
returns-in-Some g c =
    let asked = c.args.asked in
    let v = c.args.verdicts.now in
    let chain = reverse c.args.blocks.now in
    let b = c.args.block.now in
    let h = c.args.head.now in
    let r = c.requires in
    let first = subst (IsFirst (HeaderHolds c.args.params.now c.args.heads.now.list h b) (asked_header asked)) c.in-Some.is c.first_of_header.ensures in
    header_breaks (Asks asked v chain b) c.in-Some.rule r.opening r.place r.limits
    (header_found asked v chain b c.args.heads.now c.args.params.now r.known r.text r.opening r.params h.members r.count h (Some c.in-Some.rule) r.head first)

pub judge_tables-requires-clause-early : goal.judge_tables-requires-clause-early
judge_tables-requires-clause-early g c =
    let asked = c.args.asked in
    let v = c.args.verdicts.now in
    let chain = reverse c.args.blocks.now in
    let b = c.args.block.now in
    let h = c.args.head.now in
    let r = c.requires in
    let first = subst (IsFirst (HeaderHolds c.args.params.now c.args.heads.now.list h b) (asked_header asked)) c.in-None.is c.first_of_header.ensures in
    header_holds (Asks asked v chain b) r.opening r.place r.limits
    (header_found asked v chain b c.args.heads.now c.args.params.now r.known r.text r.opening r.params h.members r.count h None r.head first)

pub judge_tables-requires-clause-to_judge : goal.judge_tables-requires-clause-to_judge
judge_tables-requires-clause-to_judge g c =
    let r = c.requires in
    to_judge c.args.asked c.args.verdicts.now (reverse c.args.blocks.now) c.args.block.now c.args.heads.now c.args.params.now r.known r.text r.opening r.params c.args.head.now.members r.count c.args.head.now r.head
    (judge_tables-requires-clause-early g c)

pub judge_tables-requires-clause-fits : goal.judge_tables-requires-clause-fits
judge_tables-requires-clause-fits g c =
    let r = c.requires in
    head_fits c.args.asked c.args.verdicts.now (reverse c.args.blocks.now) c.args.block.now c.args.heads.now c.args.params.now r.known r.text r.opening r.params c.args.head.now.members r.count c.args.head.now r.head r.follows r.within
