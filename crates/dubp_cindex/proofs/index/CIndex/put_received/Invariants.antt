use Rattle.dubp_cindex.proofs.Left.{left, other_of}
use Rattle.std.proofs.Common.{◌≡◌, ◌++◌, List, map}
use Rattle.std.specs.FinMap as finite
use Rattle.std.specs.declared.ops.Bound.TheVariants.{Excluded}
use Rattle.dubp_undo.specs.States.{newest}
use Rattle.dubp_undo.specs.MovingTable.{get}
use Rattle.dubp_cindex.specs.Orders.{Place, place_cmp}
use Rattle.dubp_cindex.specs.Rows.{Rows, Entry, live_to, told, rows_along, received_by_along}
use Rattle.dubp_cindex.proofs.Walked.{up_to}
use Rattle.dubp_cindex.proofs.index.CIndex.put_received.Given as goal

-- the walk stands behind a place of the key; of each state that the tables have, the rows up to there are told
abbrev pub invariant-loop-from : goal.invariant-loop-from
invariant-loop-from l = record {
  over : l.walk.map ≡ l.self.tables.second.tables.first.table.now;
  from : l.walk.from ≡ Excluded (l.key, other_of l.walk.from);
  told :
      (s : List Rows) → ((k : Place) → get place_cmp l.self.tables.first.table.now k ≡ rows_along s k) → ((k : Place) → get place_cmp l.self.tables.second.tables.first.table.now k ≡ received_by_along s k)
      → l.found.items ≡ l.initial.found.items ++ map told (up_to (live_to l.key) (λ (e : Entry). e.0.0) (other_of l.walk.from) (finite.entries (newest finite.empty s)));
}

abbrev pub decreases-loop-from : goal.decreases-loop-from
decreases-loop-from l = left l.key (other_of l.walk.from) l.walk.map
