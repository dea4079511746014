use Rattle.std.proofs.Common.{◌∙◌, sym, true≢false}
use Rattle.dubp_people_rules.specs.Lines.{IsMembershipNewer}
use Rattle.dubp_people_rules.proofs.Sections.{on_lines, third_tells, none_tells, denies}
use Rattle.dubp_people_rules.proofs.memberships.sections_are_newer.Goals as goal
use Rattle.dubp_people_rules.proofs.memberships.sections_are_newer.Goals.{then-are_newer, else-are_newer}

pub returns-then-are_newer-2 : goal.returns-then-are_newer-2
returns-then-are_newer-2 c = λ ch at.
    let P = IsMembershipNewer ch in
    let first = on_lines P c.are_newer.result c.as_slice.ensures (c.are_newer.ensures ch at) in
    let third = on_lines P c.are_newer-then-are_newer-2.result c.as_slice-then-are_newer-2.ensures (c.are_newer-then-are_newer-2.ensures ch at) in
    elim c.if-are_newer.branch [
      | then-are_newer w ↦
          let second = on_lines P w.are_newer-then-are_newer.result w.as_slice-then-are_newer.ensures (w.are_newer-then-are_newer.ensures ch at) in
          third_tells c.are_newer.result w.are_newer-then-are_newer.result c.are_newer-then-are_newer-2.result first second third w.if-are_newer.true (sym w.value-is ∙ c.if-are_newer-2.true)
      | else-are_newer w ↦ absurd (true≢false (sym c.if-are_newer-2.true ∙ w.value-is ∙ w.if-are_newer.false))
    ]

pub returns-else-are_newer-2 : goal.returns-else-are_newer-2
returns-else-are_newer-2 c = λ ch at.
    let P = IsMembershipNewer ch in
    let first = on_lines P c.are_newer.result c.as_slice.ensures (c.are_newer.ensures ch at) in
    none_tells c.if-are_newer.value c.if-are_newer-2.false (elim c.if-are_newer.branch [
      | then-are_newer w ↦
          let second = on_lines P w.are_newer-then-are_newer.result w.as_slice-then-are_newer.ensures (w.are_newer-then-are_newer.ensures ch at) in
          λ each. denies w.are_newer-then-are_newer.result second (sym w.value-is ∙ c.if-are_newer-2.false) each.1
      | else-are_newer w ↦ λ each. denies c.are_newer.result first w.if-are_newer.false each.0
    ])
