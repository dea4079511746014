use Rattle.std.proofs.Common.{◌≡◌, ◌++◌, List}
use Rattle.dubp_atoms.specs.Same.{Text}
use Rattle.dubp_undo.specs.MovingTable.{get}
use Rattle.dubp_iindex.specs.Rows.{Rows, texts, members, member_at, newest_rows}
use Rattle.dubp_iindex.proofs.Walked.{after_of, behind, left, AreLeft}
use Rattle.dubp_iindex.proofs.index.IIndex.put_members.Given as goal

-- the walk stands behind a member, or before all; of each state that the tables have, those behind it are still to be put
abbrev pub invariant-loop-key : goal.invariant-loop-key
invariant-loop-key l = record {
  over : l.walk.map ≡ l.self.tables.second.second.table.now;
  from : l.walk.from ≡ behind (after_of l.walk.from);
  put :
      (s : List Rows) → ((q : Text) → get texts l.self.tables.second.second.table.now q ≡ member_at s q)
      → (keys : List Text) × AreLeft (newest_rows s) (after_of l.walk.from) keys × (l.initial.members.items ++ members (newest_rows s) ≡ l.members.items ++ keys);
  begins : (some : List Text) × (l.members.items ≡ l.initial.members.items ++ some);
}

abbrev pub decreases-loop-key : goal.decreases-loop-key
decreases-loop-key l = left (after_of l.walk.from) l.walk.map
