use Rattle.std.proofs.Common.{refl, ap, ◌∙◌}
use Rattle.std.specs.FinMap.{empty, get}
use Rattle.dubp_undo.specs.States.{states}
use Rattle.dubp_left.specs.Left.{certifications_left}
use Rattle.dubp_left.proofs.Looked.{newest-left}
use Rattle.dubp_left.proofs.Left.{certifications-at}
use Rattle.dubp_registry.proofs.registry.Registry.certification.Goals as goal

pub returns : goal.returns
returns c = λ chain at.
    c.row.ensures (states certifications_left chain) (c.cindex.ensures chain at)
    ∙ ap (λ rows. get rows (c.args.from, c.args.to)) (newest-left empty certifications_left refl chain)
    ∙ certifications-at chain (c.args.from, c.args.to)
