use Rattle.dubp_cindex.specs.Orders.{text_cmp, place_cmp}
use Rattle.dubp_cindex.specs.Rows.{rows_along, issuers_along}
use Rattle.dubp_cindex.proofs.Nothing.{rows_nothing, issuers_nothing, at_nothing}
use Rattle.dubp_cindex.proofs.index.CIndex.with_secret.Goals as goal

pub returns-clause-at : goal.returns-clause-at
returns-clause-at c = (
  rw c.new-3.ensures.first (at_nothing place_cmp rows_along _ c.new.ensures.now rows_nothing),
  rw c.new-3.ensures.second c.no_received.ensures.at,
  rw c.new-3.ensures.third (at_nothing text_cmp issuers_along _ c.over.ensures.now issuers_nothing),
)
