use Rattle.std.proofs.Common.{List, ◌-◌, length}
use Rattle.dubp_docs.specs.declared.doc.Doc.{Doc}
use Rattle.dubp_forging.specs.Forged.{Settles}
use Rattle.dubp_forge.specs.Steps.{Stands, docs_of}
use Rattle.dubp_forge.proofs.asking.Forge.settle.Given as goal

-- where passes from here settle, passes from the start do
abbrev pub invariant-loop-left : goal.invariant-loop-left
invariant-loop-left g l = record {
  stands : Stands l.self l.draft;
  settles : (passes : List (List Doc)) (new : List Doc) → Settles l.self passes (docs_of l.self l.draft) new
      → (all : List (List Doc)) × Settles l.self all (docs_of l.self l.fn.draft) new;
}

abbrev pub decreases-loop-left : goal.decreases-loop-left
decreases-loop-left g l = length l.self.pool - length l.draft.places.items
