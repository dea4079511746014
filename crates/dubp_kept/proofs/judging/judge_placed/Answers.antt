use Rattle.std.proofs.Common.{◌≡◌, ◌∙◌, ◌<◌, ◌^◌, Some, refl, sym, subst, reverse}
use Rattle.dubp_validity.proofs.Members.{members_are_few}
use Rattle.dubp_head.specs.Laws.{members_with}
use Rattle.dubp_head.specs.Following.{limit_rules}
use Rattle.dubp_kept.specs.Asking.{Asks}
use Rattle.dubp_kept.proofs.Orders.{limit_breaks}
use Rattle.dubp_kept.proofs.Asking.{others_asked}
use Rattle.dubp_kept.proofs.Heads.{range_with, over_with, are_heads_with, may_follow_with, limit_found, limits_hold, members_by}
use Rattle.dubp_kept.proofs.judging.judge_placed.Goals as goal

pub augment_over-requires-clause-valid : goal.augment_over-requires-clause-valid
augment_over-requires-clause-valid g c =
    let r = c.requires in
    range_with c.args.asked c.args.verdicts.now (reverse c.args.blocks.now) c.args.block.now c.args.heads.now c.args.params.now r.known r.text r.opening r.params

pub augment_over-requires-clause-over : goal.augment_over-requires-clause-over
augment_over-requires-clause-over g c =
    let r = c.requires in
    over_with c.args.asked c.args.verdicts.now (reverse c.args.blocks.now) c.args.block.now c.args.heads.now c.args.params.now r.known r.text r.opening r.params

pub augment_over-requires-clause-heads : goal.augment_over-requires-clause-heads
augment_over-requires-clause-heads g c =
    let r = c.requires in
    are_heads_with c.args.asked c.args.verdicts.now (reverse c.args.blocks.now) c.args.block.now c.args.heads.now c.args.params.now r.known r.text r.opening r.params

pub augment_over-requires-clause-block : goal.augment_over-requires-clause-block
augment_over-requires-clause-block g c =
    let r = c.requires in
    may_follow_with c.args.asked c.args.verdicts.now (reverse c.args.blocks.now) c.args.block.now c.args.heads.now c.args.params.now r.known r.text r.opening r.params
    c.in_ok-members.members r.short
    (subst (λ n. n < 2 ^ 21) (sym (c.in_ok-members.ensures (reverse c.args.blocks.now) r.at r.known.sound)) (members_are_few (reverse c.args.blocks.now) c.args.block.now r.known.sound r.short))

pub returns-in-Err : goal.returns-in-Err
returns-in-Err g c =
    let v = c.args.verdicts.now in
    let chain = reverse c.args.blocks.now in
    let b = c.args.block.now in
    let r = c.requires in
    let count : c.in_ok-members.members ≡ members_with chain b = c.in_ok-members.ensures chain r.at r.known.sound in
    let asked = c.args.asked in
    let rule = c.in-Err.passed.rule in
    let found = limit_found asked v chain b c.args.heads.now c.args.params.now r.known r.text r.opening r.params c.in_ok-members.members count rule c.in-Err.ensures.passed.first in
    limit_breaks (Asks asked v chain b) rule r.opening r.place (others_asked v chain b asked limit_rules (Some rule) refl found)

pub judge_headed-requires-clause-count : goal.judge_headed-requires-clause-count
judge_headed-requires-clause-count g c =
    let r = c.requires in
    members_by c.args.params.now c.in_ok-members.members c.args.heads.now.list c.args.block.now c.in-Ok.head c.in-Ok.ensures.head.0
    ∙ c.in_ok-members.ensures (reverse c.args.blocks.now) r.at r.known.sound

pub judge_headed-requires-clause-limits : goal.judge_headed-requires-clause-limits
judge_headed-requires-clause-limits g c =
    let v = c.args.verdicts.now in
    let chain = reverse c.args.blocks.now in
    let b = c.args.block.now in
    let r = c.requires in
    let count : c.in_ok-members.members ≡ members_with chain b = c.in_ok-members.ensures chain r.at r.known.sound in
    limits_hold c.args.asked v chain b c.args.heads.now c.args.params.now r.known r.text r.opening r.params c.in_ok-members.members count c.in-Ok.ensures.head.1

pub judge_headed-requires-clause-follows : goal.judge_headed-requires-clause-follows
judge_headed-requires-clause-follows g c =
    let r = c.requires in
    let same = members_by c.args.params.now c.in_ok-members.members c.args.heads.now.list c.args.block.now c.in-Ok.head c.in-Ok.ensures.head.0 in
    may_follow_with c.args.asked c.args.verdicts.now (reverse c.args.blocks.now) c.args.block.now c.args.heads.now c.args.params.now r.known r.text r.opening r.params
    c.in-Ok.head.members r.short
    (subst (λ n. n < 2 ^ 21) (sym (same ∙ c.in_ok-members.ensures (reverse c.args.blocks.now) r.at r.known.sound)) (members_are_few (reverse c.args.blocks.now) c.args.block.now r.known.sound r.short))
