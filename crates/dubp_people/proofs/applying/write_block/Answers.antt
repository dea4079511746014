use Rattle.std.proofs.Common.{◌+◌, ◌++◌, ◌∙◌, length, refl, ap, sym, subst, arith}
use Rattle.std.specs.Cmp.Lexicographic.{slice_cmp}
use Rattle.std.specs.Ordering.{nat_cmp}
use Rattle.dubp_rules.specs.declared.rule.Rule.TheVariants.{G51}
use Rattle.dubp_undo.specs.Definition.{IsAt}
use Rattle.dubp_registry.specs.OfFacts.facts_tables_block as facts
use Rattle.dubp_people_apply.specs.Counting.{touching_lines}
use Rattle.dubp_people_apply.specs.Ends.{end_records}
use Rattle.dubp_registry.specs.OfLeft.{IsWritten, kicked_at}
use Rattle.dubp_people_apply.proofs.Fitting.{sets_fit, touching_fits}
use Rattle.dubp_people.proofs.applying.write_block.Goals as goal

pub returns-clause-at : goal.returns-clause-at
returns-clause-at g c = λ chain applied at.
    let written : IsWritten chain c.args.block.now c.next_of-next.result = record { sound = applied.sound; block = applied.block; is_next = c.next_of-next.ensures chain (c.facts.ensures chain at) applied.head } in
    let since = c.time_before-since.ensures chain at applied.sound.1 (applied.sound.0 G51 refl) in
    let indexed = c.in_ok-write_lines.ensures.indexes chain written since at.0 at.1 in
    let ended = c.as_slice.ensures.value ∙ c.in_ok-write_lines.ensures.records chain written since at.0 at.1 ∙ (λ i. c.new-ended.ensures.items i ++ end_records chain c.args.block.now) in (
      indexed,
      c.in_ok-write_others.ensures.at chain written (record { block = applied.block; number = applied.sound.0 G51 refl; head = applied.head }) ended indexed
          (c.in_ok-write_lines.ensures.queue chain written since at.0 at.1)
          (subst (λ t. IsAt (slice_cmp nat_cmp) kicked_at t.table.now chain) (sym c.in_ok-write_lines.ensures.beside.0) at.1.1)
          (subst (λ t. (facts.ghosts).at t chain) (sym c.in_ok-write_lines.ensures.beside.1) at.1.2),
    )

pub returns-clause-records : goal.returns-clause-records
returns-clause-records g c = λ chain applied at.
    c.in_ok-write_lines.ensures.records chain (record { sound = applied.sound; block = applied.block; is_next = c.next_of-next.ensures chain (c.facts.ensures chain at) applied.head })
    (c.time_before-since.ensures chain at applied.sound.1 (applied.sound.0 G51 refl)) at.0 at.1
    ∙ (λ i. c.new-ended.ensures.items i ++ end_records chain c.args.block.now)

pub returns-clause-steps : goal.returns-clause-steps
returns-clause-steps g c = λ chain applied at.
    let b = c.args.block.now in
    let written : IsWritten chain c.args.block.now c.next_of-next.result = record { sound = applied.sound; block = applied.block; is_next = c.next_of-next.ensures chain (c.facts.ensures chain at) applied.head } in
    let since = c.time_before-since.ensures chain at applied.sound.1 (applied.sound.0 G51 refl) in
    let ended = c.as_slice.ensures.value ∙ c.in_ok-write_lines.ensures.records chain written since at.0 at.1 ∙ (λ i. c.new-ended.ensures.items i ++ end_records chain b) in
    let same = ap length ended in
    let fit = sets_fit chain b (touching_lines b + length (end_records chain b)) (touching_fits chain b) in
    let lines = c.in_ok-write_lines.ensures.steps chain written since at.0 at.1 in
    omega (arith, same, fit, lines, c.in_ok-write_others.ensures.steps)
