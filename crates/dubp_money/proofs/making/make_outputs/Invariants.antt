use Rattle.std.proofs.Common.{◌≡◌, ◌+◌, ◌*◌, ◌≤◌, List, take}
use Rattle.dubp_sindex.specs.Accounts.{accounts}
use Rattle.dubp_sindex.specs.Rows.{Entry, AreRows}
use Rattle.dubp_money_steps.specs.Left.{HasTexts}
use Rattle.dubp_money.specs.Index.{HasRows, Stays}
use Rattle.dubp_money.specs.Texts.{Grows}
use Rattle.dubp_money.specs.Making.{outputs_at, CanFollow, with_made}
use Rattle.dubp_sindex.specs.contracts.sindex.SIndexTablesSourceRows.TheImpl as tables
use Rattle.dubp_money.proofs.making.make_outputs.Given as goal

abbrev pub invariant-loop-output : goal.invariant-loop-output
invariant-loop-output g l = record {
  at : (rows : List Entry) → AreRows rows → CanFollow rows l.fn.order (outputs_at l.fn.time l.fn.hash l.fn.tx) → HasRows l.fn.index rows → HasRows l.index (with_made (accounts l.index) rows l.fn.order (take l.output-index (outputs_at l.fn.time l.fn.hash l.fn.tx)));
  has : HasTexts (accounts l.index) (take l.output-index (outputs_at l.fn.time l.fn.hash l.fn.tx));
  texts : Grows (accounts l.fn.index) (accounts l.index);
  place : l.place ≡ l.output-index;
  steps : l.steps ≤ l.fn.steps + 5 * l.output-index;
  stays : Stays l.fn.index l.index;
  others : (tables.ghosts).others l.index ≡ (tables.ghosts).others l.fn.index;
  count : (tables.ghosts).count l.index + l.initial.steps ≤ (tables.ghosts).count l.fn.index + l.steps;
}
