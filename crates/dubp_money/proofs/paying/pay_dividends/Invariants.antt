use Rattle.std.proofs.Common.{◌≡◌, ◌+◌, ◌*◌, ◌≤◌, List, take}
use Rattle.dubp_sindex.specs.Accounts.{accounts}
use Rattle.dubp_sindex.specs.Rows.{Entry, AreRows}
use Rattle.dubp_money_steps.specs.Left.{HasTexts}
use Rattle.dubp_money.specs.Index.{HasRows, Stays}
use Rattle.dubp_money.specs.Texts.{Grows}
use Rattle.dubp_money.specs.Making.{dividends_to, CanFollow, with_made}
use Rattle.dubp_sindex.specs.contracts.sindex.SIndexTablesSourceRows.TheImpl as tables
use Rattle.dubp_money.proofs.paying.pay_dividends.Given as goal

abbrev pub invariant-loop-key : goal.invariant-loop-key
invariant-loop-key g l = record {
  at : (rows : List Entry) → AreRows rows → CanFollow rows l.fn.order (dividends_to l.fn.payment l.fn.members) → HasRows l.fn.index rows → HasRows l.index (with_made (accounts l.index) rows l.fn.order (take l.key-index (dividends_to l.fn.payment l.fn.members)));
  has : HasTexts (accounts l.index) (take l.key-index (dividends_to l.fn.payment l.fn.members));
  texts : Grows (accounts l.fn.index) (accounts l.index);
  place : l.place ≡ l.key-index;
  steps : l.steps ≤ l.fn.steps + 5 * l.key-index;
  stays : Stays l.fn.index l.index;
  others : (tables.ghosts).others l.index ≡ (tables.ghosts).others l.fn.index;
  count : (tables.ghosts).count l.index + l.initial.steps ≤ (tables.ghosts).count l.fn.index + l.steps;
}
