use Rattle.std.proofs.Common.{◌≡◌, ◌+◌, ◌*◌, ◌≤◌, ◌++◌, List, take, length}
use Rattle.dubp_sindex.specs.Accounts.{accounts}
use Rattle.dubp_sindex.specs.Rows.{Entry, AreRows}
use Rattle.dubp_money.specs.Index.{HasRows, Stays}
use Rattle.dubp_sindex.specs.contracts.sindex.SIndexTablesSourceRows.TheImpl as tables
use Rattle.dubp_money.proofs.Clears.{spent_from}
use Rattle.dubp_money.proofs.clearing.take_account.Given as goal

abbrev pub invariant-loop-entry : goal.invariant-loop-entry
invariant-loop-entry g l = record {
  left : (rows : List Entry) → AreRows rows → HasRows l.fn.index rows → HasRows l.index (spent_from rows (take l.entry-index l.entry-items));
  taken : l.taken.items ≡ l.fn.taken.items ++ take l.entry-index l.entry-items;
  counted : length l.taken.items ≡ length l.fn.taken.items + l.entry-index;
  steps : l.steps ≤ l.fn.steps + 5 * l.entry-index;
  stays : Stays l.fn.index l.index;
  others : (tables.ghosts).others l.index ≡ (tables.ghosts).others l.fn.index;
  count : (tables.ghosts).count l.index + l.initial.steps ≤ (tables.ghosts).count l.fn.index + l.steps;
  texts : accounts l.index ≡ accounts l.fn.index;
}
