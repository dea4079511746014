use Rattle.std.specs.HashSet.{contains}
use Rattle.dubp_local.proofs.Repeats.{Seen}
use Rattle.dubp_local.proofs.once.stand_once.Given as goal

abbrev pub invariant-loop-value : goal.invariant-loop-value
invariant-loop-value g l = Seen g.T.PartialEq.eq l.values l.value-index (contains g.T.PartialEq.eq l.seen)
