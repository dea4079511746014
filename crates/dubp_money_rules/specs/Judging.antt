-- Which chains are judged, and the rules on money in their order. Protocol: rules; money.
use Rattle.std.specs.Prelude.{List, [], ◌∷◌}
use Rattle.std.specs.List.{AllByRecursion}
use Rattle.dubp_rules.specs.declared.rule.Rule.{Rule}
use Rattle.dubp_rules.specs.declared.rule.Rule.TheVariants.{X05, G103, G87, G88, G89, G90}
use Rattle.dubp_block.specs.Text.{IsBlock}
use Rattle.dubp_chain.specs.Chains.{Chain}

-- each block of the chain has a text
abbrev pub AreBlocks : Chain → Type 0
AreBlocks c = AllByRecursion IsBlock c

-- the rules on money, in the order of the table
abbrev pub money_rules : List Rule
money_rules = X05 ∷ G103 ∷ G87 ∷ G88 ∷ G89 ∷ G90 ∷ []

-- those that are read where no hash of a transaction stands twice
abbrev pub rules_behind_hashes : List Rule
rules_behind_hashes = G103 ∷ G87 ∷ G88 ∷ G89 ∷ G90 ∷ []
