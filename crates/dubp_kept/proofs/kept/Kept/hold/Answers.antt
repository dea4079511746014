use Rattle.std.proofs.Common.{◌≡◌, ◌∙◌, length, reverse, ap, sym, arith, vec_capacity}
use Rattle.std.proofs.lemmas.List.{length-reverse}
use Rattle.dubp_kept.proofs.Stands.{few_none, kept_held}
use Rattle.dubp_kept.proofs.kept.Kept.hold.Goals as goal

pub invariant_of-self-2 : goal.invariant_of-self-2
invariant_of-self-2 g c =
    let s = c.self.inside in
    let m = c.move_off.ensures in
    let alone = ap (λ v. v.out) c.self.view_is ∙ c.requires.alone in
    let kept : c.depth.result ≡ length (g.T.Tables.others s.tables).kept = c.depth.ensures ∙ ap length c.make_ready.ensures.kept in
    let few = few_none s.out _ _ _ _ _ _ _ c.self.invariant.out_is alone in
    rw c.of.ensures (kept_held _ _ c.depth.result _ _ s.heads c.move_off.new.heads _ c.move_off.new.blocks.items c.move_off.new.held.items (reverse s.blocks.items) c.args.count (vec_capacity c.move_off.new.blocks)
    c.self.invariant.known c.self.invariant.heads_room m.moved m.keeps (m.depth ∙ sym c.depth.ensures) (omega (arith, few, kept)) (omega (arith, kept, c.self.invariant.fits)) (omega (arith, s.blocks.ok.0, s.blocks.ok, length-reverse s.blocks.items, m.capacity)))

pub returns-clause-kept : goal.returns-clause-kept
returns-clause-kept g c = omega (arith, c.move_off.ensures.depth, ap length c.make_ready.ensures.kept, ap (λ v. v.kept) c.self.view_is)
