use Rattle.dubp_validity.specs.LocalRules.{IsUnlockedOnce}
use Rattle.dubp_local.proofs.Checking.{Rests}
use Rattle.dubp_local.proofs.unlocks.inputs_are_unlocked_once.Given as goal

abbrev pub invariant-loop-tx : goal.invariant-loop-tx
invariant-loop-tx l = Rests IsUnlockedOnce l.transactions l.tx-index
