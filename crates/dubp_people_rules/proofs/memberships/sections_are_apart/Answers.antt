use Rattle.std.proofs.Common.{◌∙◌, sym, true≢false}
use Rattle.dubp_people_rules.specs.Lines.{IsMembershipApart}
use Rattle.dubp_people_rules.proofs.Sections.{on_lines, third_tells, none_tells, denies}
use Rattle.dubp_people_rules.proofs.memberships.sections_are_apart.Goals as goal
use Rattle.dubp_people_rules.proofs.memberships.sections_are_apart.Goals.{then-are_apart, else-are_apart}

pub returns-then-are_apart-2 : goal.returns-then-are_apart-2
returns-then-are_apart-2 c = λ ch at.
    let P = IsMembershipApart ch c.args.next.now in
    let first = on_lines P c.are_apart.result c.as_slice.ensures (c.are_apart.ensures ch at) in
    let third = on_lines P c.are_apart-then-are_apart-2.result c.as_slice-then-are_apart-2.ensures (c.are_apart-then-are_apart-2.ensures ch at) in
    elim c.if-are_apart.branch [
      | then-are_apart w ↦
          let second = on_lines P w.are_apart-then-are_apart.result w.as_slice-then-are_apart.ensures (w.are_apart-then-are_apart.ensures ch at) in
          third_tells c.are_apart.result w.are_apart-then-are_apart.result c.are_apart-then-are_apart-2.result first second third w.if-are_apart.true (sym w.value-is ∙ c.if-are_apart-2.true)
      | else-are_apart w ↦ absurd (true≢false (sym c.if-are_apart-2.true ∙ w.value-is ∙ w.if-are_apart.false))
    ]

pub returns-else-are_apart-2 : goal.returns-else-are_apart-2
returns-else-are_apart-2 c = λ ch at.
    let P = IsMembershipApart ch c.args.next.now in
    let first = on_lines P c.are_apart.result c.as_slice.ensures (c.are_apart.ensures ch at) in
    none_tells c.if-are_apart.value c.if-are_apart-2.false (elim c.if-are_apart.branch [
      | then-are_apart w ↦
          let second = on_lines P w.are_apart-then-are_apart.result w.as_slice-then-are_apart.ensures (w.are_apart-then-are_apart.ensures ch at) in
          λ each. denies w.are_apart-then-are_apart.result second (sym w.value-is ∙ c.if-are_apart-2.false) each.1
      | else-are_apart w ↦ λ each. denies c.are_apart.result first w.if-are_apart.false each.0
    ])
