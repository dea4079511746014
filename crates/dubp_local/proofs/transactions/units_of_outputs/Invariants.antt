use Rattle.std.proofs.Common.{◌≡◌, ◌*◌, ◌^◌, ◌≤◌, take}
use Rattle.std.specs.Prelude.{sum_by}
use Rattle.dubp_validity.specs.LocalRules.{output_units}
use Rattle.dubp_local.proofs.transactions.units_of_outputs.Given as goal

abbrev pub invariant-loop-output : goal.invariant-loop-output
invariant-loop-output l = (l.sum ≡ sum_by output_units (take l.output-index l.outputs)) × (l.sum ≤ l.output-index * 2 ^ 114)
