use Rattle.std.proofs.Common.{◌≡◌, ◌≤◌, ◌+◌, ◌*◌, false, List, ◌∷◌, take, fold}
use Rattle.dubp_iindex.specs.contracts.index.IIndexTablesIdentityRows.TheImpl as tables
use Rattle.dubp_iindex.specs.Rows.{Rows}
use Rattle.dubp_people_apply.specs.Writing.{with_member, UidsApart}
use Rattle.dubp_people_apply.proofs.identities.exclude_all.Given as goal

abbrev pub invariant-loop-key : goal.invariant-loop-key
invariant-loop-key g l = record {
  at : (rows : Rows) (t : List Rows) → UidsApart rows → (tables.ghosts).at l.initial.index (rows ∷ t) → (tables.ghosts).at l.index (fold (with_member false) rows (take l.key-index l.keys) ∷ t);
  others : (tables.ghosts).others l.index ≡ (tables.ghosts).others l.initial.index;
  count : (tables.ghosts).count l.index + l.initial.steps ≤ (tables.ghosts).count l.initial.index + l.steps;
  steps : l.steps ≤ l.initial.steps + 4 * l.key-index;
}
