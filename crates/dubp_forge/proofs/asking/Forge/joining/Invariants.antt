use Rattle.std.proofs.Common.{◌≡◌, drop}
use Rattle.std.specs.Prelude.{find}
use Rattle.dubp_forge.specs.Steps.{comes_with, docs_of}
use Rattle.dubp_forge.proofs.asking.Forge.joining.Given as goal

-- what is found in the rest is what is found
abbrev pub invariant-loop-place : goal.invariant-loop-place
invariant-loop-place g l =
    let test = comes_with (docs_of l.self l.draft) l.identity in
    find test (drop l.place l.self.pool) ≡ find test l.self.pool
