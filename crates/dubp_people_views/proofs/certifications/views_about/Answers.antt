use Rattle.std.proofs.Common.{◌∙◌}
use Rattle.dubp_moving.specs.States.{states}
use Rattle.dubp_people_views.specs.OfLeft.{certifications_left}
use Rattle.dubp_people_views.proofs.Certified.{views_told}
use Rattle.dubp_people_views.proofs.certifications.views_about.Goals as goal

pub returns : goal.returns
returns c = λ chain at sound.
    views_told chain sound c.args.key c.validity.result c.as_slice.result.now c.in_ok-views.views.items (c.validity.ensures chain at)
    (c.as_slice.ensures.value ∙ c.in_ok-rows.ensures (states certifications_left chain) (c.cindex.ensures chain at)) c.in_ok-views.ensures
