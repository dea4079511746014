use Rattle.std.proofs.Common.{◌≡◌, ◌≤◌, ◌-◌, length}
use Rattle.dubp_forge.specs.Steps.{Stands, docs_of}
use Rattle.dubp_forge.proofs.Passing.{LeavesOn, PassesOn}
use Rattle.dubp_forge.proofs.asking.Forge.pass.Given as goal

abbrev pub invariant-loop-place : goal.invariant-loop-place
invariant-loop-place g l = record {
  stands : Stands l.self l.draft;
  passes : PassesOn l.self l.place (docs_of l.self l.fn.draft) (docs_of l.self l.draft);
  grows : length l.fn.draft.places.items ≤ length l.draft.places.items;
  same : length l.draft.places.items ≤ length l.fn.draft.places.items → l.draft.places.items ≡ l.fn.draft.places.items;
  leaves : length l.draft.places.items ≤ length l.fn.draft.places.items → LeavesOn l.self l.place (docs_of l.self l.draft) l.left.items;
}

abbrev pub decreases-loop-place : goal.decreases-loop-place
decreases-loop-place g l = length l.self.pool - l.place
