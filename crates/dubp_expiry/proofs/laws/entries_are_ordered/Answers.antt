use Rattle.dubp_expiry.proofs.Order.{entry_total, entry_exact}
use Rattle.dubp_expiry.proofs.laws.entries_are_ordered.Goals as goal

pub returns-clause-total : goal.returns-clause-total
returns-clause-total c = entry_total

pub returns-clause-exact : goal.returns-clause-exact
returns-clause-exact c = entry_exact
