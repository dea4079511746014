use Rattle.std.proofs.Common.{take}
use Rattle.std.specs.List.{AllByRecursion}
use Rattle.dubp_validity.specs.LocalRules.{IsBalanced}
use Rattle.dubp_local.proofs.transactions.transactions_are_balanced.Given as goal

abbrev pub invariant-loop-tx : goal.invariant-loop-tx
invariant-loop-tx l = AllByRecursion IsBalanced (take l.tx-index l.block.transactions)
