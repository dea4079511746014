use Rattle.std.specs.List.{AllByRecursion}
use Rattle.dubp_validity.specs.LocalRules.{NamesAnIssuer}
use Rattle.dubp_local.proofs.Checking.{Rests}
use Rattle.dubp_local.proofs.unlocks.lines_name_issuers.Given as goal

abbrev pub invariant-loop-line : goal.invariant-loop-line
invariant-loop-line l = Rests (λ line. AllByRecursion (NamesAnIssuer l.issuers) line.list) l.unlocks l.line-index
