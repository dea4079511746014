use Rattle.std.proofs.Common.{refl, ap, ◌∙◌}
use Rattle.std.specs.FinMap.{empty}
use Rattle.dubp_moving.specs.States.{states}
use Rattle.dubp_iindex.specs.Rows.{key_with}
use Rattle.dubp_people_views.specs.OfLeft.{identities_left}
use Rattle.dubp_people_views.proofs.OfLeft.{newest-left}
use Rattle.dubp_people_views.proofs.Uids.{key_found}
use Rattle.dubp_people_views.proofs.identities.key_of.Goals as goal

pub returns : goal.returns
returns c = λ chain at sound.
    c.key_of.ensures (states identities_left chain) (c.iindex.ensures chain at)
    ∙ ap (key_with c.args.uid) (newest-left empty identities_left refl chain) ∙ key_found chain sound c.args.uid
