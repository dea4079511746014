use Rattle.dubp_local.proofs.Counts.{Counts}
use Rattle.dubp_local.proofs.unlocks.unlock_counts.Given as goal

abbrev pub invariant-loop-line : goal.invariant-loop-line
invariant-loop-line l = Counts (λ line. line.input) 100 l.unlocks l.line-index l.counts
