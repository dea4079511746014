-- A condition's account as the code keeps it: the names of its sources that were made so far, and its moves. The blocks are taken one by
-- one, and within a block its transactions, its dividends and what it clears. That this gives the moves of the condition is a law.
use Rattle.std.specs.Prelude.{ℕ, List, [], ◌∷◌, ◌++◌, fold, if◌then◌else◌}
use Rattle.dubp_verdict.specs.OfAtoms.{Text, same_text}
use Rattle.dubp_chain.specs.OfBlock.{Block}
use Rattle.dubp_chain.specs.OfCond.{SourceId, Input, Tx, cond_text}
use Rattle.dubp_chain.specs.Chains.{Chain}
use Rattle.dubp_chain.specs.Heads.{time_of, head_of}
use Rattle.dubp_chain.specs.Members.{members}
use Rattle.dubp_chain.specs.Money.{Source, outputs_made, dividends_at, cleared, cleared_by}
use Rattle.dubp_validity.specs.Records.{input_of}
use Rattle.dubp_moves.specs.declared.moves.Kind.{Kind}
use Rattle.dubp_moves.specs.declared.moves.Kind.TheVariants.{Made, Spent, Cleared}
use Rattle.dubp_moves.specs.declared.moves.Move.{Move}
use Rattle.dubp_moves.specs.Moves.{Change, is_about, balance_behind, move_of, last_balance}

pub record Account : Type 0 where
  pub names : List SourceId
  pub moves : List Move

abbrev pub no_account : Account
no_account = record { names = []; moves = [] }

-- one move more, in the block of this number
abbrev pub moved : ℕ → Change → List Move → List Move
moved number x moves = moves ++ move_of number (balance_behind (last_balance 0 moves) x.kind x.input) x ∷ []

-- a source is made: it is noted where it has the condition of this text
abbrev pub with_made : Text → ℕ → Account → Source → Account
with_made cond number a s =
    if same_text cond (cond_text s.cond)
    then record { names = a.names ++ s.id ∷ []; moves = moved number (record { kind = Made; input = input_of s }) a.moves }
    else a

-- a source goes: it is noted where it is one of those that are known
abbrev pub with_gone : Kind → ℕ → Account → Input → Account
with_gone kind number a input =
    if is_about a.names (record { kind = kind; input = input })
    then record a { moves = moved number (record { kind = kind; input = input }) a.moves }
    else a

abbrev pub with_transaction : Text → ℕ → ℕ → Text → Account → Tx → Account
with_transaction cond number time currency a tx = fold (with_made cond number) (fold (with_gone Spent number) a tx.inputs) (outputs_made time currency tx)

abbrev pub with_cleared : ℕ → Account → Source → Account
with_cleared number a s = with_gone Cleared number a (input_of s)

-- one block more
abbrev pub with_block : Text → Chain → Block → Account → Account
with_block cond c b a =
    fold (with_cleared b.number)
    (fold (with_made cond b.number)
    (fold (with_transaction cond b.number (time_of (b ∷ c)) b.currency) a b.transactions)
    (dividends_at b.number (head_of (b ∷ c)) (members (b ∷ c))))
    (cleared_by c b (cleared c))

abbrev pub account_of : Text → Chain → Account
account_of cond [] = no_account
account_of cond (b ∷ c) = with_block cond c b (account_of cond c)
