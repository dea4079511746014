use Rattle.std.proofs.Common.{◌&&◌, ◌∙◌, ap, map}
use Rattle.dubp_atoms.specs.Same.{same_text, same_stamp}
use Rattle.dubp_local.proofs.Lines.{where_ok, among_by}
use Rattle.dubp_local.proofs.once.identities_join.Goals as goal

pub returns : goal.returns
returns c =
    where_ok _ c.are_among.ensures
    (λ b e.
    among_by (λ p q. same_text p.0 q.0 && (same_text p.1.0 q.1.0 && same_stamp p.1.1 q.1.1))
    (λ line. (line.key, (line.uid, line.stamp))) (λ line. (line.key, (line.uid, line.identity_stamp)))
    c.args.block.now.identities c.args.block.now.joiners _ _ b
    (c.as_slice-3.ensures.value ∙ c.in_ok-named.ensures ∙ ap (map (λ line. (line.key, (line.uid, line.stamp)))) c.as_slice.ensures)
    (c.as_slice-4.ensures.value ∙ c.in_ok-joining.ensures ∙ ap (map (λ line. (line.key, (line.uid, line.identity_stamp)))) c.as_slice-2.ensures) e)
