use Rattle.dubp_resolve.proofs.Resolving.{determined}
use Rattle.dubp_replay.specs.declared.failure.Failure.{Failure}
use Rattle.dubp_replay.specs.Turns.{Fails, Succeeds, choices_of}
use Rattle.dubp_turn_laws.proofs.Once.{switches_once}
use Rattle.dubp_turn_laws.proofs.laws.resolves_one_way.Goals as goal

pub returns : goal.returns
returns c = determined (λ (f : Failure). f.tip) (λ f. f.at) choices_of Succeeds Fails switches_once
