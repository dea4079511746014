use Rattle.std.proofs.Common.{refl, ap, ◌∙◌, length}
use Rattle.std.specs.FinMap.{empty}
use Rattle.dubp_undo.specs.States.{states}
use Rattle.dubp_iindex.specs.Rows.{members}
use Rattle.dubp_left.specs.Left.{identities_left}
use Rattle.dubp_left.proofs.Looked.{newest-left}
use Rattle.dubp_registry.proofs.Followed.{members-shown}
use Rattle.dubp_registry.proofs.registry.Registry.members.Goals as goal

pub returns : goal.returns
returns c = λ chain at sound.
    c.members.ensures (states identities_left chain) (c.iindex.ensures chain at)
    ∙ ap (λ rows. length (members rows)) (newest-left empty identities_left refl chain)
    ∙ ap length (members-shown chain sound)
