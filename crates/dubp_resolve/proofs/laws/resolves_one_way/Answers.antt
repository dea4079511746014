use Rattle.dubp_resolve.proofs.Resolving.{determined}
use Rattle.dubp_resolve.proofs.laws.resolves_one_way.Goals as goal

pub returns : goal.returns
returns g c = determined g.T.Switching.tip g.T.Switching.at g.T.Switching.view g.T.Switching.succeeds g.T.Switching.fails c.requires
