use Rattle.dubp_resolve.proofs.Resolving.{ends}
use Rattle.dubp_resolve.proofs.laws.resolve_ends.Goals as goal

pub returns : goal.returns
returns g c = ends g.T.Switching.tip g.T.Switching.at g.T.Switching.view g.T.Switching.succeeds g.T.Switching.fails c.requires
