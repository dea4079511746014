use Rattle.std.proofs.Common.{◌≡◌, ◌+◌, ◌*◌, ◌≤◌, List, length}
use Rattle.dubp_sindex.specs.Accounts.{accounts}
use Rattle.dubp_sindex.specs.Rows.{Entry, AreRows}
use Rattle.dubp_money.specs.Index.{HasRows, Stays}
use Rattle.dubp_money.specs.Writing.{IsCleared}
use Rattle.dubp_sindex.specs.contracts.sindex.SIndexTablesSourceRows.TheImpl as tables
use Rattle.dubp_money.proofs.clearing.take_little.Given as goal

abbrev pub invariant-accounts : goal.invariant-accounts
invariant-accounts g l = record {
  cleared : (rows : List Entry) → AreRows rows → HasRows l.fn.index rows → IsCleared (HasRows l.index) l.limit rows l.taken.items;
  steps : l.steps ≤ l.fn.steps + 5 * length l.taken.items;
  stays : Stays l.fn.index l.index;
  others : (tables.ghosts).others l.index ≡ (tables.ghosts).others l.fn.index;
  count : (tables.ghosts).count l.index + l.initial.steps ≤ (tables.ghosts).count l.fn.index + l.steps;
  texts : accounts l.index ≡ accounts l.fn.index;
}
