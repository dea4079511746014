use Rattle.dubp_cindex.proofs.Left.{left, other_of}
use Rattle.std.proofs.Common.{◌≡◌, ◌++◌, List, None, map}
use Rattle.std.specs.FinMap as finite
use Rattle.std.specs.declared.ops.Bound.TheVariants.{Excluded}
use Rattle.dubp_atoms.specs.Same.{Text}
use Rattle.dubp_undo.specs.States.{newest}
use Rattle.dubp_undo.specs.MovingTable.{get}
use Rattle.dubp_cindex.specs.Orders.{Place, place_cmp, AreNextIssuers}
use Rattle.dubp_cindex.specs.Rows.{Rows, Entry, live_pairs, live_to, received_by_along}
use Rattle.dubp_cindex.proofs.Walked.{up_to}
use Rattle.dubp_cindex.proofs.index.CIndex.put_issuers.Given as goal

-- the walk stands behind a place of the key; of each state that the tables have, the issuers up to there are put
abbrev pub invariant-loop-from : goal.invariant-loop-from
invariant-loop-from l = record {
  over : l.walk.map ≡ l.self.tables.second.tables.first.table.now;
  from : l.walk.from ≡ Excluded (l.to, other_of l.walk.from);
  put :
      (s : List Rows) → ((k : Place) → get place_cmp l.self.tables.second.tables.first.table.now k ≡ received_by_along s k)
      → l.issuers.items ≡ l.initial.issuers.items ++ map (λ (e : Entry). e.0.0) (up_to (live_to l.to) (λ (e : Entry). e.0.0) (other_of l.walk.from) (finite.entries (newest finite.empty s)));
  begins :
      (some : List Text) × (l.issuers.items ≡ l.initial.issuers.items ++ some) × ((s : List Rows) → ((k : Place) → get place_cmp l.self.tables.second.tables.first.table.now k ≡ received_by_along s k)
      → (rest : List Text) → AreNextIssuers (live_pairs (newest finite.empty s)) l.to (other_of l.walk.from) rest → AreNextIssuers (live_pairs (newest finite.empty s)) l.to None (some ++ rest));
}

abbrev pub decreases-loop-from : goal.decreases-loop-from
decreases-loop-from l = left l.to (other_of l.walk.from) l.walk.map
