use Rattle.std.proofs.Common.{refl, ap, ◌∙◌}
use Rattle.std.specs.FinMap.{empty}
use Rattle.dubp_undo.specs.States.{states}
use Rattle.dubp_left.specs.Left.{certifications_left}
use Rattle.dubp_left.proofs.Looked.{newest-left}
use Rattle.dubp_cindex.specs.Rows.{received_in}
use Rattle.dubp_registry.proofs.Counted.{received-counted}
use Rattle.dubp_registry.proofs.registry.Registry.received.Goals as goal

pub returns : goal.returns
returns c = λ chain at.
    c.received.ensures (states certifications_left chain) (c.cindex.ensures chain at)
    ∙ ap (λ rows. received_in rows c.args.to) (newest-left empty certifications_left refl chain)
    ∙ received-counted chain c.args.to
