-- The answer on the certifications of a key, of the texts that are told of them.
use Rattle.std.proofs.Common.{◌≡◌, ℕ, ◌++◌, List, Option, Some, None, map, option_map, refl, ap, sym, ◌∙◌}
use Rattle.std.specs.Prelude.{codes}
use Rattle.std.specs.Option.{option_map_or}
use Rattle.std.proofs.lemmas.Simd.{map-map}
use Rattle.dubp_atoms.specs.Same.{Text}
use Rattle.dubp_chain.specs.Chains.{Chain}
use Rattle.dubp_chain.specs.People.{identity}
use Rattle.dubp_chain.specs.Live.{certification}
use Rattle.dubp_replay.specs.Answers.{certification_line, certification_values, certs_answer, ended, none_answer, pairs_to, pairs_from, values_line}
use Rattle.dubp_people_views.specs.declared.certifications.CertificationView.{CertificationView}
use Rattle.dubp_people_views.specs.Certifications.{certification_texts, certifications_told}
use Rattle.dubp_table_answers.specs.CertificationLines.{view_line}

-- the lines with these texts, and END; or that there is none
abbrev texts_answer : Option (List (List Text)) → List ℕ
texts_answer texts = option_map_or (λ lines. ended (map (values_line (codes "CERT")) lines)) texts none_answer

lines_told : (c : Chain) (k : Text) {X : Type 0} (o : Option X) → texts_answer (option_map (λ _. certifications_told c k) o)
    ≡ option_map_or (λ _. ended (map (certification_line c) (pairs_to c k ++ pairs_from c k))) o none_answer
lines_told c k None = refl
lines_told c k (Some x) = ap ended (map-map (values_line (codes "CERT")) (λ p. certification_values c p (certification c p.0 p.1)) (pairs_to c k ++ pairs_from c k))

module _ (c : Chain) (k : Text) where
  pub views_answered : (views : List CertificationView) → Some (map certification_texts views) ≡ option_map (λ _. certifications_told c k) (identity c k) → ended (map view_line views) ≡ certs_answer c k
  views_answered views e = sym (ap ended (map-map (values_line (codes "CERT")) certification_texts views)) ∙ ap texts_answer e ∙ lines_told c k (identity c k)

  pub nobody_answered : None ≡ option_map (λ _. certifications_told c k) (identity c k) → none_answer ≡ certs_answer c k
  nobody_answered e = ap texts_answer e ∙ lines_told c k (identity c k)
