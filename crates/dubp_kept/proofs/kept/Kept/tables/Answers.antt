use Rattle.std.proofs.Common.{ap, reverse, vec_capacity}
use Rattle.dubp_kept.proofs.Within.{now_is, states_of}
use Rattle.dubp_kept.proofs.kept.Kept.tables.Goals as goal

pub returns-clause-at : goal.returns-clause-at
returns-clause-at g c =
    let t = c.self.inside.tables in
    let chain = c.args.self.now.chain in
    g.met.T.Tables.is_at t chain (now_is (g.T.Tables.is (g.T.Tables.names t)) (g.T.Tables.now t) (g.T.Tables.count t) (g.T.Tables.others t).kept (reverse c.self.inside.blocks.items) chain (ap (λ v. v.chain) c.self.view_is) c.self.invariant.stands_is)

pub returns-clause-states : goal.returns-clause-states
returns-clause-states g c =
    let k = c.self.inside in
    let t = k.tables in
    states_of (g.T.Tables.is (g.T.Tables.names t)) (g.T.Tables.now t) (g.T.Tables.count t) (g.T.Tables.others t) k.out k.heads k.behind.items (reverse k.blocks.items) (vec_capacity k.blocks) c.args.self.now c.self.invariant c.self.view_is
