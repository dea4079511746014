use Rattle.dubp_least.specs.Matches.{measure_at}
use Rattle.dubp_least.proofs.Building.{one_more_by}
use Rattle.dubp_least.proofs.matches.play_all.Goals as goal

pub loop-k-preserved : goal.loop-k-preserved
loop-k-preserved g c = one_more_by (measure_at g.M.Measure.measure c.args.values.now) c.loop-k.winners c.loop-k.k c.play_two.result c.winner_at-left.result c.winner_at-right.result c.loop-k-test.true c.loop-k.invariant c.winner_at-left.ensures c.winner_at-right.ensures c.play_two.ensures
