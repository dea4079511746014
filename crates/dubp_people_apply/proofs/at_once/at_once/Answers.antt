use Rattle.std.proofs.Common.{ap, ◌∙◌}
use Rattle.std.specs.List.{list_any}
use Rattle.std.specs.BTreeMap.{is_at}
use Rattle.std.specs.BTreeSet.{contains}
use Rattle.dubp_steps.specs.Ordered.{text_cmp, pair_cmp}
use Rattle.dubp_steps.specs.Loops.{over_line, over_by_time_line, ended_line}
use Rattle.dubp_steps.proofs.Lines.{at_once_by_lines}
use Rattle.dubp_people_apply.proofs.EndedLines.{both_sections, one_section}
use Rattle.dubp_people_apply.proofs.at_once.at_once.Goals as goal

pub returns : goal.returns
returns c =
    λ chain facts m k written since.
    let b = c.args.block.now in
    let by = at_once_by_lines chain b written.sound in
    record {
      over = λ a.
          both_sections (over_line chain b a) _ _ b.joiners b.actives (contains text_cmp c.new-expired.result a) (contains text_cmp c.note_all_over.new.set a) _ c.as_slice-joiners.ensures c.as_slice-actives.ensures (ap (list_any (is_at (text_cmp a))) c.new-expired.ensures.empty)
          (c.in_ok-note_all_over.ensures chain facts m written since a) (c.in_ok-note_all_over-2.ensures chain facts m written since a)
          ∙ by.over a;
      revoked = λ a.
          both_sections (over_by_time_line chain b a) _ _ b.joiners b.actives (contains text_cmp c.new-revoked.result a) (contains text_cmp c.note_all_revoked.new.set a) _ c.as_slice-joiners.ensures c.as_slice-actives.ensures (ap (list_any (is_at (text_cmp a))) c.new-revoked.ensures.empty)
          (c.in_ok-note_all_revoked.ensures chain facts written a) (c.in_ok-note_all_revoked-2.ensures chain facts written a)
          ∙ by.revoked a;
      ended = λ x y.
          one_section (ended_line chain b x y) _ b.certifications (contains pair_cmp c.new-ended.result (x, y)) _ c.as_slice-lines.ensures (ap (list_any (is_at (pair_cmp (x, y)))) c.new-ended.ensures.empty) (c.in_ok-note_all_ended.ensures chain facts k written x y)
          ∙ by.ended x y;
    }
