use Rattle.std.proofs.Common.{◌≡◌, ◌+◌, ◌*◌, ◌≤◌, List, take}
use Rattle.dubp_sindex.specs.Accounts.{accounts}
use Rattle.dubp_sindex.specs.Rows.{Entry, AreRows}
use Rattle.dubp_money.specs.Index.{HasRows, Stays}
use Rattle.dubp_money.specs.Writing.{without_inputs}
use Rattle.dubp_sindex.specs.contracts.sindex.SIndexTablesSourceRows.TheImpl as tables
use Rattle.dubp_money.proofs.spending.spend_inputs.Given as goal

abbrev pub invariant-loop-input : goal.invariant-loop-input
invariant-loop-input g l = record {
  at : (rows : List Entry) → AreRows rows → HasRows l.fn.index rows → HasRows l.index (without_inputs (take l.input-index l.input-items) rows);
  steps : l.steps ≤ l.fn.steps + 5 * l.input-index;
  stays : Stays l.fn.index l.index;
  others : (tables.ghosts).others l.index ≡ (tables.ghosts).others l.fn.index;
  count : (tables.ghosts).count l.index + l.initial.steps ≤ (tables.ghosts).count l.fn.index + l.steps;
  accounts : accounts l.index ≡ accounts l.fn.index;
}
