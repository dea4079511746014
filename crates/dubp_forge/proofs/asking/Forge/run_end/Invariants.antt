use Rattle.std.specs.List.{AllByRecursion}
use Rattle.dubp_forging_laws.specs.Laws.{IsTransaction}
use Rattle.dubp_forge.specs.Runs.{run_of}
use Rattle.dubp_forge.proofs.asking.Forge.run_end.Given as goal

abbrev pub invariant-loop-end : goal.invariant-loop-end
invariant-loop-end g l = AllByRecursion IsTransaction (run_of l.self l.draft l.place l.end)
