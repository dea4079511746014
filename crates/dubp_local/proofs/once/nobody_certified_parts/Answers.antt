use Rattle.std.proofs.Common.{◌∙◌, ap, map, sym}
use Rattle.dubp_atoms.specs.Same.{same_text}
use Rattle.dubp_validity.specs.LocalRules.{parting_keys}
use Rattle.dubp_local.proofs.Lines.{where_ok, apart_by, map-itself}
use Rattle.dubp_local.proofs.once.nobody_certified_parts.Goals as goal

pub returns : goal.returns
returns c =
    where_ok _ c.are_apart.ensures
    (λ b e.
    apart_by same_text (λ line. line.to) (λ key. key) c.args.block.now.certifications (parting_keys c.args.block.now) _ _ b
    (c.as_slice-2.ensures.value ∙ c.in_ok-receivers.ensures ∙ ap (map (λ line. line.to)) c.as_slice.ensures)
    (c.as_slice-3.ensures.value ∙ c.in_ok-parting.ensures ∙ sym (map-itself _)) e)
