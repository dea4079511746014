use Rattle.std.proofs.Common.{◌∙◌}
use Rattle.dubp_undo.specs.States.{states}
use Rattle.dubp_left.specs.Left.{identities_left}
use Rattle.dubp_left.proofs.Looked.{identity-look}
use Rattle.dubp_registry.proofs.registry.Registry.identity.Goals as goal

pub returns : goal.returns
returns c = λ chain at. c.row.ensures (states identities_left chain) (c.iindex.ensures chain at) ∙ identity-look chain c.args.key
