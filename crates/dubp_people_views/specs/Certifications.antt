-- What is told of a certification that lives, in the texts of the answer to CERTS. Protocol: commands and answers.
use Rattle.std.specs.Prelude.{ℕ, ◌+◌, ◌-◌, ◌^◌, List, [], ◌∷◌, ◌++◌, map, min}
use Rattle.std.specs.Fmt.{decimal}
use Rattle.dubp_atoms.specs.Same.{Text}
use Rattle.dubp_chain.specs.Chains.{Chain}
use Rattle.dubp_chain.specs.Live.{certification}
use Rattle.dubp_replay.specs.Answers.{certification_values, pairs_to, pairs_from}
use Rattle.dubp_cindex.specs.declared.row.CertRow.{CertRow}
use Rattle.dubp_people_views.specs.declared.certifications.CertificationView.{CertificationView}

abbrev pub certification_texts : CertificationView → List Text
certification_texts v = v.from ∷ v.to ∷ decimal v.made ∷ decimal v.expires ∷ decimal v.written ∷ []

-- the texts of the live certifications to k, by issuer, and then of those from k, by receiver
abbrev pub certifications_told : Chain → Text → List (List Text)
certifications_told c k = map (λ p. certification_values c p (certification c p.0 p.1)) (pairs_to c k ++ pairs_from c k)

-- ---- in the words of the rows, for the functions that serve them

-- the issuer, the receiver and the row, as a certification that lasts so long
abbrev pub view_of : ℕ → Text × Text × CertRow → CertificationView
view_of lasting row =
    record { from = row.0; to = row.1; made = row.2.made; expires = min (row.2.made + lasting) (2 ^ 64 - 1); written = row.2.written }
