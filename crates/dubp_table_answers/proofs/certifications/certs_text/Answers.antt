use Rattle.std.proofs.Common.{Vec, map, option_map, sym, ap, ◌∙◌}
use Rattle.std.proofs.lemmas.Result.{IfOk-weaker}
use Rattle.dubp_replay.specs.Answers.{ended}
use Rattle.dubp_people_views.specs.declared.certifications.CertificationView.{CertificationView}
use Rattle.dubp_people_views.specs.Certifications.{certification_texts}
use Rattle.dubp_table_answers.specs.CertificationLines.{view_line}
use Rattle.dubp_table_answers.proofs.Certs.{views_answered, nobody_answered}
use Rattle.dubp_table_answers.proofs.certifications.certs_text.Goals as goal

pub returns-in-Some : goal.returns-in-Some
returns-in-Some c =
    IfOk-weaker c.views_text.result _ _ (λ text is. λ chain at sound.
    is ∙ ap (λ views. ended (map view_line views)) c.as_slice.ensures.value
    ∙ views_answered chain c.args.key c.in-Some.views.items
    (ap (option_map (λ (views : Vec CertificationView _). map certification_texts views.items)) (sym c.in-Some.is) ∙ c.in_ok-views.ensures chain at sound)) c.views_text.ensures

pub returns-in-None : goal.returns-in-None
returns-in-None c =
    IfOk-weaker c.none_text.result _ _ (λ text is. λ chain at sound.
    is ∙ nobody_answered chain c.args.key
    (ap (option_map (λ (views : Vec CertificationView _). map certification_texts views.items)) (sym c.in-None.is) ∙ c.in_ok-views.ensures chain at sound)) c.none_text.ensures
