use Rattle.dubp_cindex.specs.Orders.{text_cmp, place_cmp}
use Rattle.dubp_cindex.specs.Rows.{received_by_along, received_along}
use Rattle.dubp_cindex.proofs.Nothing.{received_by_nothing, received_nothing, at_nothing}
use Rattle.dubp_cindex.proofs.sides.no_received.Goals as goal

pub returns-clause-at : goal.returns-clause-at
returns-clause-at c = (
  rw c.new-tables.ensures.first (at_nothing place_cmp received_by_along _ c.new-pairs.ensures.now received_by_nothing),
  rw c.new-tables.ensures.second (at_nothing text_cmp received_along _ c.over-counted.ensures.now received_nothing),
)
