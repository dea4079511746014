use Rattle.std.proofs.Common.{◌&&◌, ◌∙◌, ap, map}
use Rattle.dubp_atoms.specs.Same.{same_text}
use Rattle.dubp_local.proofs.Lines.{where_ok, once_by}
use Rattle.dubp_local.proofs.once.pairs_stand_once.Goals as goal

pub returns : goal.returns
returns c =
    where_ok _ c.stand_once.ensures
    (λ once e.
    once_by (λ p q. same_text p.0 q.0 && same_text p.1 q.1) (λ line. (line.from, line.to)) c.args.block.now.certifications _ once
    (c.as_slice-2.ensures.value ∙ c.in_ok-pairs.ensures ∙ ap (map (λ line. (line.from, line.to))) c.as_slice.ensures) e)
