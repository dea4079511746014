use Rattle.dubp_head.proofs.Powers.{units_small}
use Rattle.dubp_head.proofs.money.units.Goals as goal

pub returns-clause-small : goal.returns-clause-small
returns-clause-small c = rw c.pow.ensures (units_small c.args.amount c.args.base c.requires.small c.requires.low)
