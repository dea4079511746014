use Rattle.dubp_money_rules.proofs.Repeats.{Seen}
use Rattle.dubp_money_rules.proofs.sets.set_once.Given as goal

abbrev pub invariant-loop-value : goal.invariant-loop-value
invariant-loop-value g l = Seen g.T.PartialEq.eq l.values l.value-index l.seen.keys
