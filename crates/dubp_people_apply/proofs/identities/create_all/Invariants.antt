use Rattle.std.proofs.Common.{◌≡◌, ◌≤◌, ◌+◌, ◌*◌, List, ◌∷◌, take, fold}
use Rattle.dubp_iindex.specs.contracts.index.IIndexTablesIdentityRows.TheImpl as tables
use Rattle.dubp_iindex.specs.Rows.{Rows}
use Rattle.dubp_people_apply.specs.Writing.{created, AreNewLines}
use Rattle.dubp_people_apply.proofs.identities.create_all.Given as goal

abbrev pub invariant-loop-line : goal.invariant-loop-line
invariant-loop-line g l = record {
  at : (rows : Rows) (t : List Rows) → AreNewLines l.number rows l.lines → (tables.ghosts).at l.initial.index (rows ∷ t) → (tables.ghosts).at l.index (fold (created l.number) rows (take l.line-index l.lines) ∷ t);
  others : (tables.ghosts).others l.index ≡ (tables.ghosts).others l.initial.index;
  count : (tables.ghosts).count l.index + l.initial.steps ≤ (tables.ghosts).count l.initial.index + l.steps;
  steps : l.steps ≤ l.initial.steps + 4 * l.line-index;
}
