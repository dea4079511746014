use Rattle.std.proofs.Common.{◌≡◌, ◌+◌, ◌*◌, ◌^◌, ◌≤◌, List, take, length}
use Rattle.std.specs.List.{flat_map}
use Rattle.dubp_sindex.specs.Accounts.{accounts}
use Rattle.dubp_sindex.specs.Rows.{Entry, AreRows}
use Rattle.dubp_money_steps.specs.Left.{HasTexts}
use Rattle.dubp_money.specs.Index.{HasRows, Stays}
use Rattle.dubp_money.specs.Texts.{Grows}
use Rattle.dubp_money.specs.Making.{CanFollow}
use Rattle.dubp_money.specs.Transactions.{all_outputs, all_written, records_of}
use Rattle.dubp_sindex.specs.contracts.sindex.SIndexTablesSourceRows.TheImpl as tables
use Rattle.dubp_money.proofs.transactions.write_transactions.Given as goal

abbrev pub invariant-loop-i : goal.invariant-loop-i
invariant-loop-i g l = record {
  at : (rows : List Entry) → AreRows rows → CanFollow rows l.fn.order (all_outputs l.fn.time l.fn.block.currency l.fn.block.transactions) → HasRows l.fn.index rows → HasRows l.index (all_written (accounts l.index) l.fn.time l.fn.block.currency l.fn.order rows (take l.i l.fn.block.transactions)).1;
  has : HasTexts (accounts l.index) (all_outputs l.fn.time l.fn.block.currency (take l.i l.fn.block.transactions));
  texts : Grows (accounts l.fn.index) (accounts l.index);
  place : l.fn.order + length (all_outputs l.fn.time l.fn.block.currency (take l.i l.fn.block.transactions)) ≤ 2 ^ 63 → l.place ≡ l.fn.order + length (all_outputs l.fn.time l.fn.block.currency (take l.i l.fn.block.transactions));
  steps : l.steps ≤ l.fn.steps + 5 * length (flat_map (records_of l.fn.time l.fn.block.currency) (take l.i l.fn.block.transactions));
  stays : Stays l.fn.index l.index;
  others : (tables.ghosts).others l.index ≡ (tables.ghosts).others l.fn.index;
  count : (tables.ghosts).count l.index + l.initial.steps ≤ (tables.ghosts).count l.fn.index + l.steps;
}
