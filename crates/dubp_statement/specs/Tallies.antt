-- What the code keeps of a condition's account. Protocol: statements.
use Rattle.std.specs.Prelude.{◌≡◌, ℕ, ◌<◌, ◌^◌, List, [], ◌∷◌, ◌++◌}
use Rattle.std.specs.List.{list_any, AllByRecursion}
use Rattle.dubp_chain.specs.OfCond.{Input, SourceId}
use Rattle.dubp_chain.specs.Money.{same_source}
use Rattle.dubp_replay.specs.OfMoves.{Account, Kind, Made, Move, last_balance, moved}
use Rattle.dubp_statement.specs.declared.tally.Tally.{Tally}

-- one move more of the account
abbrev pub with_move : Kind → ℕ → Account → Input → Account
with_move kind number a input = record a { moves = moved number (record { kind = kind; input = input }) a.moves }

-- one source more of the account, which is made
abbrev pub with_source : ℕ → Account → Input → Account
with_source number a input = with_move Made number (record a { names = a.names ++ input.source ∷ [] }) input

-- the moves of a tally, whatever account it is of
abbrev pub moves_of : Tally → List Move
moves_of t = t.moves.items

-- the tally knows the same names as the account, and has its moves and the units behind the last
pub record HasTally (a : Account) (t : Tally) : Type 0 where
  pub names : (x : SourceId) → list_any (λ name. same_source name x) t.names.keys ≡ list_any (λ name. same_source name x) a.names
  pub moves : t.moves.items ≡ a.moves
  pub balance : t.balance ≡ last_balance 0 a.moves

-- each balance is a number of 128 bits, as on every sound chain
abbrev pub AreNumbers : List Move → Type 0
AreNumbers moves = AllByRecursion (λ (m : Move). m.balance < 2 ^ 128) moves

-- where each balance of the account is one, the tally knows all of it
pub record IsTallyOf (a : Account) (t : Tally) : Type 0 where
  pub has : AreNumbers a.moves → HasTally a t
