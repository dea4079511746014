use Rattle.std.specs.BTreeMap.Range.{IsFromStart}
use Rattle.dubp_journal.specs.MovingTable.{get}
use Rattle.dubp_journal.specs.Slots.{held}
use Rattle.dubp_journal.specs.Walking.{IsRest}
use Rattle.dubp_journal.proofs.by_order.ByOrderOrderedFinder.next_held.Given as goal

abbrev pub invariant-loop-k : goal.invariant-loop-k
invariant-loop-k g l = IsRest g.K.Ord.cmp (IsFromStart g.K.Ord.cmp l.fn.from) (λ q. held l.slots (get g.K.Ord.cmp l.self.slots.entries q)) l.slots l.k-iterator
