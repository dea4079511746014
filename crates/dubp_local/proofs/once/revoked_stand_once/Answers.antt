use Rattle.std.proofs.Common.{◌∙◌, ap, sym}
use Rattle.dubp_atoms.specs.Same.{same_text}
use Rattle.dubp_validity.specs.OfChain.{membership_lines}
use Rattle.dubp_validity.specs.OfChain.{each_once}
use Rattle.dubp_validity.specs.LocalRules.{revoked_keys}
use Rattle.dubp_local.proofs.Lines.{and_also, where_ok, apart_by, map-itself}
use Rattle.dubp_local.proofs.once.revoked_stand_once.Goals as goal

pub returns : goal.returns
returns c =
    where_ok _ c.are_apart.ensures
    (λ b e.
    let rest =
    apart_by same_text (λ key. key) (λ line. line.key) (revoked_keys c.args.block.now) (membership_lines c.args.block.now) _ _ b
    (c.as_slice-2.ensures.value ∙ c.in_ok-keys.ensures ∙ sym (map-itself _))
    (c.as_slice-3.ensures.value ∙ c.in_ok-moving.ensures) e in
    let once = sym (ap (each_once same_text) (c.as_slice.ensures.value ∙ c.in_ok-keys.ensures)) ∙ sym c.in_ok-stand_once.ensures ∙ c.if-not-branch.false in
    and_also once rest)
