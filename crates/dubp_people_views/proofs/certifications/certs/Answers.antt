use Rattle.std.proofs.Common.{Some, sym, ap, ◌∙◌}
use Rattle.dubp_people_views.specs.Certifications.{certifications_told}
use Rattle.dubp_people_views.proofs.Certified.{nobody_told, somebody_told}
use Rattle.dubp_people_views.proofs.certifications.certs.Goals as goal

pub returns-in_ok-views-in-Some : goal.returns-in_ok-views-in-Some
returns-in_ok-views-in-Some c = λ chain at sound.
    ap Some (c.in_ok-views-in-Some.ensures chain at sound) ∙ somebody_told chain c.args.key (certifications_told chain c.args.key) _ (sym c.in-Some.is ∙ c.identity.ensures chain at)

pub returns-in-None : goal.returns-in-None
returns-in-None c = λ chain at sound. nobody_told chain c.args.key (certifications_told chain c.args.key) (sym c.in-None.is ∙ c.identity.ensures chain at)
