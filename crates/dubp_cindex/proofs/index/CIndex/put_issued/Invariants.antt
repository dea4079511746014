use Rattle.dubp_cindex.proofs.Left.{left, other_of}
use Rattle.std.proofs.Common.{◌≡◌, ◌++◌, List, map}
use Rattle.std.specs.FinMap as finite
use Rattle.std.specs.declared.ops.Bound.TheVariants.{Excluded}
use Rattle.dubp_undo.specs.States.{newest}
use Rattle.dubp_undo.specs.MovingTable.{get}
use Rattle.dubp_cindex.specs.Orders.{Place, place_cmp}
use Rattle.dubp_cindex.specs.Rows.{Rows, Entry, live_from, told, rows_along}
use Rattle.dubp_cindex.proofs.Walked.{up_to}
use Rattle.dubp_cindex.proofs.index.CIndex.put_issued.Given as goal

-- the walk stands behind a place of the key; of each state that the tables have, the rows up to there are told
abbrev pub invariant-loop-to : goal.invariant-loop-to
invariant-loop-to l = record {
  over : l.walk.map ≡ l.self.tables.first.table.now;
  from : l.walk.from ≡ Excluded (l.key, other_of l.walk.from);
  told :
      (s : List Rows) → ((k : Place) → get place_cmp l.self.tables.first.table.now k ≡ rows_along s k)
      → l.found.items ≡ l.initial.found.items ++ map told (up_to (live_from l.key) (λ (e : Entry). e.0.1) (other_of l.walk.from) (finite.entries (newest finite.empty s)));
}

abbrev pub decreases-loop-to : goal.decreases-loop-to
decreases-loop-to l = left l.key (other_of l.walk.from) l.walk.map
