use Rattle.dubp_least.specs.Matches.{measure_at}
use Rattle.dubp_least.proofs.Playing.{begins, replayed_by, ends}
use Rattle.dubp_least.proofs.matches.play_above.Goals as goal

pub loop-k-init : goal.loop-k-init
loop-k-init g c = begins (measure_at g.M.Measure.measure c.args.values.now) c.args.winners.now c.args.place c.requires.place c.requires.places c.requires.others

pub loop-k-preserved : goal.loop-k-preserved
loop-k-preserved g c = replayed_by (measure_at g.M.Measure.measure c.args.values.now) c.loop-k.winners c.loop-k.k c.play_two.result c.winner_at-left.result c.winner_at-right.result c.loop-k-test.true c.loop-k.invariant c.winner_at-left.ensures c.winner_at-right.ensures c.play_two.ensures

pub returns : goal.returns
returns g c = ends (measure_at g.M.Measure.measure c.args.values.now) c.loop-k.winners c.loop-k.k c.loop-k-test.false c.loop-k.invariant
