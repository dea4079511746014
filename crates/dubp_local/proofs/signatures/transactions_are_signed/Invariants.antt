use Rattle.std.proofs.Common.{take}
use Rattle.std.specs.List.{AllByRecursion}
use Rattle.dubp_validity.specs.LocalRules.{IsSignedByAll}
use Rattle.dubp_local.proofs.signatures.transactions_are_signed.Given as goal

abbrev pub invariant-loop-i : goal.invariant-loop-i
invariant-loop-i l = AllByRecursion (IsSignedByAll l.verdicts l.block.currency) (take l.i l.block.transactions)
