use Rattle.std.proofs.Common.{◌++◌, refl, ap, ◌∙◌}
use Rattle.std.specs.FinMap.{empty}
use Rattle.dubp_undo.specs.States.{states}
use Rattle.dubp_iindex.specs.Rows.{members, newest_rows}
use Rattle.dubp_left.specs.Left.{identities_left}
use Rattle.dubp_left.proofs.Looked.{newest-left}
use Rattle.dubp_registry.proofs.Followed.{members-shown}
use Rattle.dubp_registry.proofs.registry.Registry.member_list.Goals as goal

pub returns : goal.returns
returns c = λ chain at sound.
    c.in_ok-put_members.ensures.put (states identities_left chain) (c.iindex.ensures chain at)
    ∙ ap (λ xs. xs ++ members (newest_rows (states identities_left chain))) c.new-keys.ensures.items
    ∙ ap members (newest-left empty identities_left refl chain)
    ∙ members-shown chain sound
