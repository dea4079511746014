-- The rules on people, in the order in which they are read. Protocol: rules.
use Rattle.std.specs.Prelude.{List, [], ◌∷◌}
use Rattle.dubp_rules.specs.declared.rule.Rule.{Rule}
use Rattle.dubp_rules.specs.declared.rule.Rule.TheVariants.{X06, G63, G73, G74, G64, G75, G108, G82, G78, G81, G80, G77, G83, G84, G65, G66, G67, G68, G69, G70, G71, G72, G79, G76, G85, G86}

abbrev pub people_rules : List Rule
people_rules =
    X06 ∷ G63 ∷ G73 ∷ G74 ∷ G64 ∷ G75 ∷ G108 ∷ G82 ∷ G78 ∷ G81 ∷ G80 ∷ G77 ∷ G83 ∷ G84 ∷ G65 ∷ G66 ∷
    G67 ∷ G68 ∷ G69 ∷ G70 ∷ G71 ∷ G72 ∷ G79 ∷ G76 ∷ G85 ∷ G86 ∷ []
