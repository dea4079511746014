use Rattle.dubp_validity.specs.LocalRules.{NamesAnIssuer}
use Rattle.dubp_local.proofs.Checking.{Rests}
use Rattle.dubp_local.proofs.unlocks.all_name_issuers.Given as goal

abbrev pub invariant-loop-unlock : goal.invariant-loop-unlock
invariant-loop-unlock l = Rests (NamesAnIssuer l.issuers) l.list l.unlock-index
