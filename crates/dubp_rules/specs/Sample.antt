-- Which rules hold of a number, for the tests of `first_of!`.
use Rattle.std.specs.Prelude.{◌≡◌, ℕ, ◌<◌, ◌%◌, ⊤}
use Rattle.dubp_rules.specs.declared.rule.Rule.{Rule}
use Rattle.dubp_rules.specs.declared.rule.Rule.TheVariants.{X01, P01, X02, X07, L01}

-- X01 is for even numbers, P01 for those below 100, X02 for those below 50, X07 for those below 20, and L01 for those below 10
abbrev pub Suits : ℕ → Rule → Type 0
Suits n X01 = n % 2 ≡ 0
Suits n P01 = n < 100
Suits n X02 = n < 50
Suits n X07 = n < 20
Suits n L01 = n < 10
Suits n _ = ⊤
