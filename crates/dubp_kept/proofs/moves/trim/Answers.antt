use Rattle.std.proofs.Common.{◌∙◌, length, ap, arith}
use Rattle.dubp_moving.specs.Others.{length_but_last}
use Rattle.dubp_kept.proofs.Within.{within_fewer, waits_same}
use Rattle.dubp_kept.proofs.moves.trim.Goals as goal

pub loop-tables-smaller : goal.loop-tables-smaller
loop-tables-smaller g c = omega (arith, c.loop-tables-test.true, c.depth.ensures, ap length c.drop_oldest.ensures.kept, length_but_last (g.T.Tables.others c.loop-tables.tables).kept)

pub loop-tables-preserved : goal.loop-tables-preserved
loop-tables-preserved g c =
    let i = c.loop-tables.invariant in
    let d = c.drop_oldest.ensures in
    let t = c.loop-tables.tables in
    let n = c.drop_oldest.new.self in
    let fewer = length_but_last (g.T.Tables.others t).kept in
    record {
      stands = λ chain s. within_fewer (g.T.Tables.is (g.T.Tables.names t)) (g.T.Tables.is (g.T.Tables.names n)) (λ m e p. rw d.names p) (g.T.Tables.now t) (g.T.Tables.now n) (g.T.Tables.count t) (g.T.Tables.count n) (g.T.Tables.others t).kept (g.T.Tables.others n).kept chain d.now d.count d.kept (i.stands chain s);
      fits = omega (arith, i.fits, ap length d.kept, fewer);
      least = omega (arith, i.least, c.loop-tables-test.true, c.depth.ensures, ap length d.kept, fewer);
      waits = λ o k w. waits_same (g.T.Tables.is (g.T.Tables.names t)) (g.T.Tables.is (g.T.Tables.names n)) (λ m e p. rw d.names p) (g.T.Tables.others t) (g.T.Tables.others n) o k d.ahead d.root (i.waits o k w);
      ahead = d.ahead ∙ i.ahead;
    }
