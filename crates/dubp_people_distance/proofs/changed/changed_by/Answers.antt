use Rattle.std.proofs.Common.{◌∙◌, inr, ap, sym}
use Rattle.std.specs.List.{list_any}
use Rattle.std.specs.Map.{lookup}
use Rattle.std.proofs.lemmas.Option.{none-some}
use Rattle.indexmap.specs.IndexMap.{get}
use Rattle.dubp_atoms.specs.Same.{same_text}
use Rattle.dubp_lists.proofs.Elements.{or_true}
use Rattle.dubp_people_distance.specs.Ends.{is_end_of_line}
use Rattle.dubp_people_distance.proofs.Kept.{others_kept}
use Rattle.dubp_people_distance.proofs.changed.changed_by.Goals as goal

pub returns-clause-kept : goal.returns-clause-kept
returns-clause-kept g c = λ chain shown.
    others_kept chain c.args.block.now (get same_text c.put_dues.new.known)
    (λ k named. c.in_ok-put_dues.ensures.stays k (c.in_ok-put_lines.ensures.has k ∙ or_true _ _ (inr (ap (list_any (is_end_of_line k)) c.as_slice.ensures ∙ named))))
    (c.in_ok-put_dues.ensures.has chain c.args.block.now shown)

pub returns-clause-certified : goal.returns-clause-certified
returns-clause-certified g c = λ chain shown.
    let b = c.args.block.now in
    c.in_ok-put_dues.ensures.certified chain b shown
    (c.in_ok-put_lines.ensures.certified chain b shown (λ k x e. absurd (none-some x (sym (ap (lookup (same_text k)) c.with_hasher-known.ensures.empty) ∙ e))))
