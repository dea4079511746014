use Rattle.dubp_forging_laws.proofs.FewerTried.{tried_fewer}
use Rattle.dubp_forging_laws.proofs.laws.fewer_transactions_fit.Goals as goal

pub returns : goal.returns
returns c = tried_fewer
