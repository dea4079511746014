use Rattle.std.proofs.Common.{◌≡◌, ◌++◌}
use Rattle.dubp_forge.specs.Runs.{run_of}
use Rattle.dubp_forge.specs.Steps.{Extends, Stands, docs_of}
use Rattle.dubp_forge.proofs.asking.Forge.add_run.Given as goal

abbrev pub invariant-loop-next : goal.invariant-loop-next
invariant-loop-next g l = record {
  stands : Stands l.self l.draft;
  docs : docs_of l.self l.draft ≡ docs_of l.self l.fn.draft ++ run_of l.self l.fn.draft l.place l.next;
  grows : Extends l.fn.draft.places.items l.draft.places.items;
}
