-- What a statement keeps: its running sum is the balance behind each block, and no sum of it is cut off. Protocol: statements.
use Rattle.std.specs.Prelude.{◌≡◌, ℕ, ◌+◌, ◌≤◌, Bool, true, false, List, [], ◌∷◌, ◌++◌, filter, sum_by, ⊤}
use Rattle.dubp_verdict.specs.OfAtoms.{Text}
use Rattle.dubp_chain.specs.Chains.{Chain}
use Rattle.dubp_chain.specs.Heads.{units, issued}
use Rattle.dubp_chain.specs.Money.{balance}
use Rattle.dubp_validity.specs.Rules.{IsSound}
use Rattle.dubp_moves.specs.declared.moves.Kind.{Kind}
use Rattle.dubp_moves.specs.declared.moves.Kind.TheVariants.{Made, Spent, Cleared}
use Rattle.dubp_moves.specs.declared.moves.Move.{Move}
use Rattle.dubp_moves.specs.Moves.{moves_of, last_balance}

abbrev pub move_units : Move → ℕ
move_units m = units m.amount m.base

-- The sums over the moves behind this balance: nothing is taken from less than there is, and none is above the limit.
abbrev pub IsSum : Kind → ℕ → ℕ → ℕ → Type 0
IsSum Made before units behind = behind ≡ before + units
IsSum Spent before units behind = behind + units ≡ before
IsSum Cleared before units behind = behind + units ≡ before

abbrev pub AreSums : ℕ → ℕ → List Move → Type 0
AreSums limit before [] = ⊤
AreSums limit before (m ∷ ms) = IsSum m.kind before (move_units m) m.balance × (m.balance ≤ limit) × AreSums limit m.balance ms

abbrev pub is_made : Kind → Bool
is_made Made = true
is_made kind = false

abbrev pub is_spent : Kind → Bool
is_spent Spent = true
is_spent kind = false

abbrev pub is_cleared : Kind → Bool
is_cleared Cleared = true
is_cleared kind = false

-- the units of the moves of a kind
abbrev pub units_of_kind : (Kind → Bool) → List Move → ℕ
units_of_kind is moves = sum_by move_units (filter (λ m. is m.kind) moves)

-- these are the moves of a condition on a chain
pub record IsStatement (c : Chain) (cond : Text) (moves : List Move) : Type 0 where
  pub is : moves ≡ moves_of c cond
  -- the last balance is that of the chain
  pub last : last_balance 0 moves ≡ balance c cond
  -- what was made is spent, cleared, or there
  pub whole : units_of_kind is_made moves ≡ units_of_kind is_spent moves + units_of_kind is_cleared moves + balance c cond
  -- each sum is what it says, and at most what the chain issued
  pub sums : AreSums (issued c) 0 moves
  -- the statement of each chain that it goes on from is a front of it, and what follows is of later blocks
  pub goes_on : (above below : Chain) → above ++ below ≡ c → (later : List Move) × (moves ≡ moves_of below cond ++ later) × (last_balance 0 (moves_of below cond) ≡ balance below cond)

abbrev pub Statements : Type 0
Statements = (c : Chain) (cond : Text) → IsSound c → IsStatement c cond (moves_of c cond)
