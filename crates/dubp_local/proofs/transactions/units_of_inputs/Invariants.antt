use Rattle.std.proofs.Common.{◌≡◌, ◌*◌, ◌^◌, ◌≤◌, take}
use Rattle.std.specs.Prelude.{sum_by}
use Rattle.dubp_validity.specs.LocalRules.{input_units}
use Rattle.dubp_local.proofs.transactions.units_of_inputs.Given as goal

abbrev pub invariant-loop-input : goal.invariant-loop-input
invariant-loop-input l = (l.sum ≡ sum_by input_units (take l.input-index l.inputs)) × (l.sum ≤ l.input-index * 2 ^ 114)
