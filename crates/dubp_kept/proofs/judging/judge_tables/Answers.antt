use Rattle.std.proofs.Common.{None, Some, refl, reverse, subst}
use Rattle.dubp_rules.specs.First.{IsFirst}
use Rattle.dubp_validity.specs.Rules.{Holds}
use Rattle.dubp_kept.specs.Parts.{table_parts}
use Rattle.dubp_kept.specs.Asking.{Asks}
use Rattle.dubp_kept.proofs.Orders.{parts_decide}
use Rattle.dubp_kept.proofs.Asking.{others_asked}
use Rattle.dubp_kept.proofs.Joins.{may_join}
use Rattle.dubp_kept.proofs.judging.judge_tables.Goals as goal

pub returns-in-Some : goal.returns-in-Some
returns-in-Some g c =
    let v = c.args.verdicts.now in
    let chain = reverse c.args.blocks.now in
    let b = c.args.block.now in
    let asked = c.args.asked in
    let r = c.requires in
    let first = subst (IsFirst (Holds v chain b) table_parts) c.in-Some.is (c.in_ok-rule.ensures chain r.at r.to_judge) in
    parts_decide (Asks asked v chain b) (Some c.in-Some.rule) r.early (others_asked v chain b asked table_parts (Some c.in-Some.rule) refl first)

pub returns-in-None : goal.returns-in-None
returns-in-None g c =
    let v = c.args.verdicts.now in
    let chain = reverse c.args.blocks.now in
    let b = c.args.block.now in
    let asked = c.args.asked in
    let r = c.requires in
    let first = subst (IsFirst (Holds v chain b) table_parts) c.in-None.is (c.in_ok-rule.ensures chain r.at r.to_judge) in
    let all = parts_decide (Asks asked v chain b) None r.early (others_asked v chain b asked table_parts None refl first) in
    (all, may_join asked v chain b c.args.head.now c.args.params.now all r.short r.to_judge r.fits, r.hashes)
