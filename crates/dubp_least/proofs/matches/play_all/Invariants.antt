use Rattle.dubp_least.specs.Matches.{measure_at}
use Rattle.dubp_least.proofs.Building.{IsPlayedFrom}
use Rattle.dubp_least.proofs.matches.play_all.Given as goal

abbrev pub invariant-loop-k : goal.invariant-loop-k
invariant-loop-k g l = IsPlayedFrom (measure_at g.M.Measure.measure l.values) l.winners l.k

abbrev pub decreases-loop-k : goal.decreases-loop-k
decreases-loop-k g l = l.k
