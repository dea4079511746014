use Rattle.std.proofs.Common.{◌≡◌, map, take}
use Rattle.dubp_replay.specs.declared.failure.Failure.{Failure}
use Rattle.dubp_turns.proofs.seeing.places_of.Given as goal

abbrev pub invariant-loop-failure : goal.invariant-loop-failure
invariant-loop-failure l = l.places.items ≡ map (λ (f : Failure). f.at) (take l.failure-index l.failures)
