use Rattle.std.proofs.Common.{◌∙◌, length, reverse, ap, arith}
use Rattle.dubp_kept.proofs.Within.{within_same}
use Rattle.dubp_kept.proofs.kept.Kept.settle.Goals as goal

pub invariant_of-self : goal.invariant_of-self
invariant_of-self g c =
    let i = c.self.invariant in
    let d = c.drop_ahead.ensures in
    let t = c.self.inside.tables in
    let n = c.drop_ahead.new.self in
    let chain = reverse c.self.inside.blocks.items in
    record {
      stands_is = c.trim.ensures.stands chain (within_same (g.T.Tables.is (g.T.Tables.names t)) (g.T.Tables.is (g.T.Tables.names n)) (λ m e p. rw d.names p) (g.T.Tables.now t) (g.T.Tables.now n) (g.T.Tables.count t) (g.T.Tables.count n) (g.T.Tables.others t).kept (g.T.Tables.others n).kept chain d.now d.count d.kept i.stands_is);
      fits = omega (arith, c.trim.ensures.depth, ap length d.kept, i.fits);
      known = i.known;
      heads_room = i.heads_room;
      out_is = (omega (arith, c.trim.ensures.depth), ap length (c.trim.ensures.ahead ∙ d.ahead));
    }

pub returns-clause-kept : goal.returns-clause-kept
returns-clause-kept g c = omega (arith, c.trim.ensures.depth, ap length c.drop_ahead.ensures.kept, ap (λ v. v.kept) c.self.view_is)
