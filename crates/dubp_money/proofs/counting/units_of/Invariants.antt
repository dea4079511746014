use Rattle.std.proofs.Common.{◌≡◌, ◌^◌, ◌<◌, sum_by, take}
use Rattle.dubp_sindex.specs.Rows.{units_of_entry}
use Rattle.dubp_money.proofs.counting.units_of.Given as goal

abbrev pub invariant-loop-entry : goal.invariant-loop-entry
invariant-loop-entry l = record { sum : sum_by units_of_entry (take l.entry-index l.sources) < 2 ^ 128 → l.sum ≡ sum_by units_of_entry (take l.entry-index l.sources) }
