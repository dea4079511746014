use Rattle.std.proofs.Common.{◌∙◌}
use Rattle.dubp_undo.specs.States.{states}
use Rattle.dubp_left.specs.Left.{memberships_left}
use Rattle.dubp_left.proofs.Looked.{membership-look}
use Rattle.dubp_registry.proofs.registry.Registry.membership.Goals as goal

pub returns : goal.returns
returns c = λ chain at. c.row.ensures (states memberships_left chain) (c.mindex.ensures chain at) ∙ membership-look chain c.args.key
