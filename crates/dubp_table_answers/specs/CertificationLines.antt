-- The line of a certification that lives, of what is told of it. Protocol: commands and answers.
use Rattle.std.specs.Prelude.{ℕ, List, codes, map}
use Rattle.std.specs.List.{flat_map}
use Rattle.dubp_people_views.specs.declared.certifications.CertificationView.{CertificationView}
use Rattle.dubp_people_views.specs.Certifications.{certification_texts}
use Rattle.dubp_replay.specs.Answers.{values_line}

-- CERT FROM TO MADE EXPIRES WRITTEN
abbrev pub view_line : CertificationView → List ℕ
view_line v = values_line (codes "CERT") (certification_texts v)

-- the lines of these certifications, one behind the other
abbrev pub view_lines : List CertificationView → List ℕ
view_lines views = flat_map (λ line. line) (map view_line views)
