-- The rules on people in parts, for the functions that read them: on identities, memberships, certifications, and on who comes and goes.
-- Protocol: rules.
use Rattle.std.specs.Prelude.{List, [], ◌∷◌}
use Rattle.dubp_rules.specs.declared.rule.Rule.{Rule}
use Rattle.dubp_rules.specs.declared.rule.Rule.TheVariants.{X06, G63, G73, G74, G64, G75, G108, G82, G78, G81, G80, G77, G83, G84, G65, G66, G67, G68, G69, G70, G71, G72, G79, G76, G85, G86}

abbrev pub identity_rules : List Rule
identity_rules = X06 ∷ G63 ∷ G73 ∷ G74 ∷ []

abbrev pub membership_rules : List Rule
membership_rules = G64 ∷ G75 ∷ G108 ∷ G82 ∷ G78 ∷ G81 ∷ G80 ∷ G77 ∷ G83 ∷ G84 ∷ []

abbrev pub certification_rules : List Rule
certification_rules = G65 ∷ G66 ∷ G67 ∷ G68 ∷ G69 ∷ G70 ∷ G71 ∷ G72 ∷ []

abbrev pub comer_rules : List Rule
comer_rules = G79 ∷ G76 ∷ G85 ∷ G86 ∷ []
