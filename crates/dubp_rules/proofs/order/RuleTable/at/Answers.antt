-- The rules of a table are those of `table_rules`, so the rule at a place has that place.
use Rattle.std.proofs.Common.{arith}
use Rattle.dubp_rules.proofs.Places.{place_of-slice_index_or}
use Rattle.dubp_rules.proofs.order.RuleTable.at.Goals as goal

pub returns-clause-place : goal.returns-clause-place
returns-clause-place g c =
    place_of-slice_index_or c.self.inside.rules c.args.place _ c.self.invariant (omega arith)
