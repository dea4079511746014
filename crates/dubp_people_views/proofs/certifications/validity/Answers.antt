use Rattle.std.proofs.Common.{sym, ◌∙◌}
use Rattle.dubp_people_views.proofs.Certified.{validity_told}
use Rattle.dubp_people_views.proofs.certifications.validity.Goals as goal

pub returns-in-Some : goal.returns-in-Some
returns-in-Some c = λ chain at. validity_told chain _ (sym c.in-Some.is ∙ c.first.ensures chain at)

pub returns-in-None : goal.returns-in-None
returns-in-None c = λ chain at. validity_told chain _ (sym c.in-None.is ∙ c.first.ensures chain at)
