use Rattle.std.proofs.Common.{◌≡◌, ◌≤◌, length, take}
use Rattle.dubp_forge.specs.Steps.{Stands}
use Rattle.dubp_forge.proofs.asking.Forge.take_back.Given as goal

abbrev pub invariant-loop-draft : goal.invariant-loop-draft
invariant-loop-draft g l = record {
  stands : Stands l.self l.draft;
  many : l.count ≤ length l.draft.places.items;
  short : length l.draft.places.items ≤ length l.fn.draft.places.items;
  front : l.draft.places.items ≡ take (length l.draft.places.items) l.fn.draft.places.items;
}

abbrev pub decreases-loop-draft : goal.decreases-loop-draft
decreases-loop-draft g l = length l.draft.places.items
