use Rattle.std.proofs.Common.{◌≡◌, ℕ, List}
use Rattle.std.specs.Ordering.{nat_cmp}
use Rattle.dubp_undo.specs.MovingTable.{get}
use Rattle.dubp_sindex.specs.Origins.{AreKnown}
use Rattle.dubp_sindex.specs.Rows.{Entry, AreRows}
use Rattle.dubp_sindex.specs.Derived.{linked_at, balance_at}
use Rattle.dubp_sindex.proofs.Walking.{IsWalked}
use Rattle.dubp_sindex.proofs.sindex.SIndex.sources.Given as goal

-- whatever rows the tables have, the first sources of the account were found
abbrev pub invariant-walk : goal.invariant-walk
invariant-walk l =
    (rows : List Entry) → ((p : ℕ) → get nat_cmp l.self.tables.second.table.now p ≡ linked_at l.self.origins p rows) → ((a : ℕ) → get nat_cmp l.self.tables.third.table.now a ≡ balance_at a rows) → AreRows rows → AreKnown l.self.origins rows
    → IsWalked rows l.account l.counter l.here l.found.items
