use Rattle.std.proofs.Common.{◌≡◌, ◌+◌, ◌-◌, ◌^◌, ◌∙◌, ap, min, arith}
use Rattle.std.specs.List.{list_any}
use Rattle.dubp_atoms.specs.Same.{same_text}
use Rattle.dubp_chain.specs.Members.{is_of}
use Rattle.dubp_people_views.proofs.Counting.{members_told}
use Rattle.dubp_people_views.proofs.members.members_with.Goals as goal

pub returns : goal.returns
returns c = λ chain at sound.
    let less = c.saturating_sub.ensures in
    let more = c.saturating_add.ensures in
    let sum : c.saturating_add.result ≡ min ((c.members.result - c.count_gone-gone.result) + c.count_come-come.result) (2 ^ 64 - 1) = omega (arith, less, more) in
    sum
    ∙ members_told chain c.args.block.now c.in_ok-excluded.excluded.keys c.in_ok-joined.joined.keys c.count_gone-gone.ensures.once c.count_come-come.ensures.once
    (λ k. c.in_ok-excluded.ensures k ∙ ap (list_any (same_text k)) c.as_slice.ensures)
    (λ k. c.in_ok-joined.ensures k ∙ ap (list_any (is_of k)) c.as_slice-2.ensures)
    c.members.result c.count_gone-gone.result c.count_come-come.result sound (c.members.ensures chain at sound) (c.count_gone-gone.ensures.count chain at sound)
    (c.count_come-come.ensures.count chain at sound) c.count_come-come.ensures.small
