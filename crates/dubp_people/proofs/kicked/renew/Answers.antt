use Rattle.std.proofs.Common.{false, ap, sym, ◌∙◌}
use Rattle.std.specs.Prelude.{is_some, if◌then◌else◌}
use Rattle.std.specs.Option.{option_map_or}
use Rattle.std.specs.Cmp.Lexicographic.{slice_cmp}
use Rattle.std.specs.Ordering.{nat_cmp}
use Rattle.dubp_atoms.specs.Same.{same_text}
use Rattle.dubp_undo.specs.MovingTable.{get}
use Rattle.dubp_people.specs.Exclusion.{kicked_with}
use Rattle.dubp_people.proofs.Rows.{renewed}
use Rattle.dubp_people.proofs.kicked.renew.Goals as goal

pub returns-in_ok-note-in-Some-clause-now : goal.returns-in_ok-note-in-Some-clause-now
returns-in_ok-note-in-Some-clause-now g c = λ chain at k.
    renewed _ k c.in-Some.key (kicked_with c.args.next.now chain) c.has_to_be_excluded-is.result
    (is_some (get (slice_cmp nat_cmp) c.args.kicked.now.table.now k)) _
    (c.touched.ensures k ∙ ap (λ o. option_map_or (same_text k) o false) c.in-Some.is)
    (c.has_to_be_excluded-is.ensures chain at)
    (c.in_ok-note-in-Some.ensures.now k)

pub returns-in-None-clause-now : goal.returns-in-None-clause-now
returns-in-None-clause-now g c = λ chain at k.
    ap (λ b. if b then kicked_with c.args.next.now chain k else is_some (get (slice_cmp nat_cmp) c.args.kicked.now.table.now k)) (sym (c.touched.ensures k ∙ ap (λ o. option_map_or (same_text k) o false) c.in-None.is))
