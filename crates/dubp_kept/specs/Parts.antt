-- The table of rules in the parts in which they are asked. Protocol: rules.
use Rattle.std.specs.Prelude.{◌≡◌, List, [], ◌∷◌, ◌++◌}
use Rattle.dubp_rules.specs.declared.rule.Rule.{Rule}
use Rattle.dubp_rules.specs.declared.rule.Rule.TheVariants.{X01, P01, G51, G52, G53, G49, G101, X06, G63, G73, G74, G64, G75, G108, G82, G78, G81, G80, G77, G83, G84, G65, G66, G67, G68, G69, G70, G71, G72, G79, G76, G85, G86, X05, G103, G87, G88, G89, G90}
use Rattle.dubp_rules.specs.Table.{table_rules}
use Rattle.dubp_kept.specs.OfLocal.{local_rules}
use Rattle.dubp_head.specs.Following.{limit_rules}
use Rattle.dubp_head.specs.NextHead.{header_rules}

-- those up to G51
abbrev pub opening_rules : List Rule
opening_rules = X01 ∷ P01 ∷ (local_rules ++ G51 ∷ [])

-- on the block before, and on the place in the chain
abbrev pub link_rules : List Rule
link_rules = G52 ∷ G53 ∷ G49 ∷ []

abbrev pub place_rules : List Rule
place_rules = link_rules ++ G101 ∷ []

-- those before the rules on people
abbrev pub early_rules : List Rule
early_rules = opening_rules ++ (place_rules ++ (limit_rules ++ header_rules))

-- on people, and on money
abbrev pub people_rules : List Rule
people_rules =
    X06 ∷ G63 ∷ G73 ∷ G74 ∷ G64 ∷ G75 ∷ G108 ∷ G82 ∷ G78 ∷ G81 ∷ G80 ∷ G77 ∷ G83 ∷ G84
    ∷ G65 ∷ G66 ∷ G67 ∷ G68 ∷ G69 ∷ G70 ∷ G71 ∷ G72 ∷ G79 ∷ G76 ∷ G85 ∷ G86 ∷ []

abbrev pub money_rules : List Rule
money_rules = X05 ∷ G103 ∷ G87 ∷ G88 ∷ G89 ∷ G90 ∷ []

abbrev pub table_parts : List Rule
table_parts = people_rules ++ money_rules

abbrev pub AreParts : Type 0
AreParts = early_rules ++ table_parts ≡ table_rules
