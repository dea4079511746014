-- Each balance of a condition's moves is a number of 128 bits, since no more is issued than the greatest mass that a head may have.
use Rattle.std.proofs.Common.{◌≡◌, ℕ, ◌<◌, ◌≤◌, ◌^◌, List, [], ◌∷◌, refl, arith}
use Rattle.std.specs.List.{AllByRecursion}
use Rattle.dubp_verdict.specs.OfAtoms.{Text}
use Rattle.dubp_rules.specs.declared.rule.Rule.TheVariants.{X08}
use Rattle.dubp_chain.specs.Chains.{Chain}
use Rattle.dubp_chain.specs.Heads.{issued}
use Rattle.dubp_validity.specs.Rules.{IsSound}
use Rattle.dubp_laws.proofs.Conservation.{conserves}
use Rattle.dubp_moves.specs.declared.moves.Move.{Move}
use Rattle.dubp_moves.specs.Moves.{moves_of}
use Rattle.dubp_moves.specs.Statements.{AreSums}
use Rattle.dubp_moves.proofs.Whole.{statements}

fits : (mass n : ℕ) → mass ≡ n → mass < 2 ^ 100 → n < 2 ^ 128
fits mass n is below = omega (arith, is, below)

issued_is_small : (c : Chain) → IsSound c → issued c < 2 ^ 128
issued_is_small [] sound = omega arith
issued_is_small (b ∷ c) sound = fits _ (issued (b ∷ c)) (conserves (b ∷ c) sound).mass (sound.0 X08 refl).1

below_limit : (n limit k : ℕ) → n ≤ limit → limit < k → n < k
below_limit n limit k within below = omega (arith, within, below)

sums_are_small : (limit before : ℕ) (moves : List Move) → limit < 2 ^ 128 → AreSums limit before moves → AllByRecursion (λ (m : Move). m.balance < 2 ^ 128) moves
sums_are_small limit before [] below sums = tt
sums_are_small limit before (m ∷ moves) below sums = (below_limit m.balance limit (2 ^ 128) sums.1 below, sums_are_small limit m.balance moves below sums.2)

pub balances_are_small : (c : Chain) (cond : Text) → IsSound c → AllByRecursion (λ (m : Move). m.balance < 2 ^ 128) (moves_of c cond)
balances_are_small c cond sound = sums_are_small (issued c) 0 (moves_of c cond) (issued_is_small c sound) (statements c cond sound).sums
