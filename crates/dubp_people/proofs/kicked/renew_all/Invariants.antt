use Rattle.std.proofs.Common.{◌≡◌, ◌≤◌, ◌+◌, take, fold}
use Rattle.std.specs.Prelude.{is_some}
use Rattle.std.specs.Cmp.Lexicographic.{slice_cmp}
use Rattle.std.specs.Ordering.{nat_cmp}
use Rattle.dubp_atoms.specs.Same.{Text}
use Rattle.dubp_undo.specs.MovingTable.{get}
use Rattle.dubp_undo.specs.Turned.{others_of, count_of}
use Rattle.dubp_chain.specs.Chains.{Chain}
use Rattle.dubp_registry.specs.contracts.indexes.IndexesTablesBlock.TheImpl as indexes
use Rattle.dubp_people.specs.Exclusion.{kicked_with, noted_anew}
use Rattle.dubp_people.proofs.kicked.renew_all.Given as goal

abbrev pub invariant-loop-entry : goal.invariant-loop-entry
invariant-loop-entry g l = record {
  now : (c : Chain) → (indexes.ghosts).at l.indexes c
      → (k : Text) → is_some (get (slice_cmp nat_cmp) l.kicked.table.now k) ≡ fold (noted_anew (kicked_with l.next c k) (g.T.Touching.touches k)) (is_some (get (slice_cmp nat_cmp) l.fn.kicked.table.now k)) (take l.entry-index l.entries);
  others : others_of l.kicked.table ≡ others_of l.fn.kicked.table;
  count : count_of l.kicked.table + l.fn.steps ≤ count_of l.fn.kicked.table + l.steps;
  steps : l.steps ≤ l.fn.steps + l.entry-index;
}
