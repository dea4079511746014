use Rattle.std.proofs.Common.{◌≡◌, ℕ, List, false}
use Rattle.std.specs.List.{list_any}
use Rattle.std.specs.Ordering.{nat_cmp}
use Rattle.dubp_undo.specs.MovingTable.{get}
use Rattle.dubp_sindex.specs.Rows.{Entry, AreRows, of_account}
use Rattle.dubp_sindex.specs.Origins.{OriginTexts}
use Rattle.dubp_sindex.specs.Derived.{is_at, last_place, linked_at}
use Rattle.dubp_sindex.proofs.Walking.{IsBack, left}
use Rattle.dubp_sindex.proofs.neighbours.neighbours.Given as goal

-- whatever rows the table has, those of the account up to here were not walked
abbrev pub invariant-back : goal.invariant-back
invariant-back l =
    (o : OriginTexts) (account : ℕ) (rows : List Entry) → ((p : ℕ) → get nat_cmp l.rows.table.now p ≡ linked_at o p rows) → AreRows rows → l.fn.last ≡ last_place (of_account account rows) → list_any (is_at l.place) rows ≡ false
    → IsBack rows account l.place l.before l.after

abbrev pub decreases-back : goal.decreases-back
decreases-back l = left l.before
