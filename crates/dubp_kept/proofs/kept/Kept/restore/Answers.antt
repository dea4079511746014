use Rattle.std.proofs.Common.{◌++◌, length, reverse, ap, arith, vec_capacity}
use Rattle.dubp_kept.proofs.Stands.{can_restore, kept_restored}
use Rattle.dubp_kept.proofs.kept.Kept.restore.Goals as goal

pub put_back-requires : goal.put_back-requires
put_back-requires g c =
    let s = c.self.inside in
    let seen = c.self.view_is in
    let can = can_restore s.out _ _ (length (g.T.Tables.others s.tables).kept) _ s.heads s.behind.items s.blocks.items c.held.inside.blocks.items (vec_capacity s.blocks) c.args.self.now c.args.held
    c.self.invariant (ap (λ v. v.chain) seen) (ap (λ v. v.out) seen) c.held.view_is c.requires.held c.requires.chain in
    record { returns = can.returns }

pub invariant_of-self : goal.invariant_of-self
invariant_of-self g c =
    let s = c.self.inside in
    let seen = c.self.view_is in
    let p = c.put_back.ensures in
    let can = can_restore s.out _ _ (length (g.T.Tables.others s.tables).kept) _ s.heads s.behind.items s.blocks.items c.held.inside.blocks.items (vec_capacity s.blocks) c.args.self.now c.args.held
    c.self.invariant (ap (λ v. v.chain) seen) (ap (λ v. v.out) seen) c.held.view_is c.requires.held c.requires.chain in
    kept_restored _ _ (length (g.T.Tables.others c.put_back.new.tables).kept) _ s.heads c.put_back.new.heads _ c.put_back.new.blocks.items c.put_back.new.held.items (c.held.inside.blocks.items ++ reverse s.blocks.items) _
    p.moved can.returns.comes can.returns.heads_room p.keeps (omega (arith, can.few, p.depth)) (omega (arith, can.fits, p.depth))
