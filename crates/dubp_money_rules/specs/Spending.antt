-- What an input of a block may spend: the unspent sources of the chain, and the outputs of the transactions before its own, which are
-- found by the place of their hash. `t` is the time of the chain with the block. Protocol: rules; money.
use Rattle.std.specs.Prelude.{◌≡◌, ℕ, ◌+◌, ◌≤◌, ◌<◌, ◌==◌, ◌&&◌, IsTrue, List, ◌++◌, Option, Some, None, option_map, take, nat_lt, length, slice_get, position, if◌then◌else◌, ⊤}
use Rattle.std.specs.Option.{MatchOption, IsSomeAnd}
use Rattle.std.specs.List.{flat_map, AllByRecursion, count_by, enumerate_from}
use Rattle.dubp_atoms.specs.Same.{Text, same_text}
use Rattle.dubp_cond.specs.Tree.{CondTree}
use Rattle.dubp_cond.specs.Conditions.{IsCond}
use Rattle.dubp_cond.specs.declared.source.SourceId.{SourceId}
use Rattle.dubp_cond.specs.declared.source.SourceId.TheVariants.{D, T}
use Rattle.dubp_cond.specs.declared.source.Input.{Input}
use Rattle.dubp_cond.specs.Truth.{IsTrueAt}
use Rattle.dubp_cond.specs.declared.unlock.Unlock.{Unlock}
use Rattle.dubp_cond.specs.declared.output.Output.{Output}
use Rattle.dubp_cond.specs.declared.tx.Tx.{Tx}
use Rattle.dubp_block.specs.declared.block.Block.{Block}
use Rattle.dubp_chain.specs.Words.{each_once}
use Rattle.dubp_chain.specs.Chains.{Chain}
use Rattle.dubp_chain.specs.Heads.{time_of}
use Rattle.dubp_validity.specs.Rules.{IsSound}
use Rattle.dubp_chain.specs.Money.{Source, made_sources, unspent, outputs_made, hashes_in}
use Rattle.dubp_sindex.specs.declared.rows.SourceRow.{SourceRow}
use Rattle.dubp_validity.specs.MoneyRules.{EachMay, spent, IsOpened}

-- these are the hashes of the transactions of the block, in order, and none stands twice
pub record AreNumbered (keys : List Text) (b : Block) : Type 0 where
  pub are : keys ≡ hashes_in b
  pub once : IsTrue (each_once same_text (hashes_in b))

-- what the transactions before number i of the block make
abbrev pub made_before : ℕ → Block → ℕ → List Source
made_before t b i = flat_map (outputs_made t b.currency) (take i b.transactions)

abbrev pub time_in : Option Source → Option ℕ
time_in o = option_map (λ s. s.time) o

-- when the source was made that an input of transaction number i spends, where it is there
abbrev pub time_spent : ℕ → Chain → Block → ℕ → Input → Option ℕ
time_spent t c b i input = time_in (spent (unspent c ++ made_before t b i) input)

-- the row, where it has the amount and the base of the input
abbrev pub fitting_row : Input → Option SourceRow → Option SourceRow
fitting_row input None = None
fitting_row input (Some row) = if row.amount == input.amount && row.base == input.base then Some row else None

abbrev pub time_of_row : Input → Option SourceRow → Option ℕ
time_of_row input row = option_map (λ r. r.made_at) (fitting_row input row)

abbrev pub time_of_output : ℕ → Input → Option Output → Option ℕ
time_of_output t input None = None
time_of_output t input (Some output) = if output.amount == input.amount && output.base == input.base then Some t else None

-- the output at place p of a transaction before number i
abbrev pub output_of : Option Tx → ℕ → Option Output
output_of None p = None
output_of (Some tx) p = slice_get tx.outputs p

abbrev pub output_at : List Tx → ℕ → Option ℕ → ℕ → Option Output
output_at txs i None p = None
output_at txs i (Some n) p = if nat_lt n i then output_of (slice_get txs n) p else None

abbrev pub output_named : List Text → List Tx → ℕ → SourceId → Option Output
output_named keys txs i (D key block) = None
output_named keys txs i (T h p) = output_at txs i (position (same_text h) keys) p

-- the sources that transaction number i of the block may spend
abbrev pub at_hand : ℕ → Chain → Block → ℕ → List Source
at_hand t c b i = unspent c ++ made_before t b i

-- each transaction with the sources that it may spend
abbrev pub EachAt : ℕ → Chain → Block → (Tx → List Source → Type 0) → List Tx → Type 0
EachAt t c b P txs = EachMay P (outputs_made t b.currency) (unspent c) txs

-- G87 of one input, and of a transaction
abbrev pub IsThere : List Source → Input → Type 0
IsThere sources input = IsSomeAnd (spent sources input) (λ s. ⊤)

abbrev pub AreThere : Tx → List Source → Type 0
AreThere tx sources = AllByRecursion (IsThere sources) tx.inputs

-- G89
abbrev pub HasEnded : ℕ → ℕ → List Source → Input → Type 0
HasEnded t locktime sources input = MatchOption (spent sources input) ⊤ (λ s. s.time + locktime ≤ t)

abbrev pub HaveEnded : ℕ → Tx → List Source → Type 0
HaveEnded t tx sources = AllByRecursion (HasEnded t tx.locktime sources) tx.inputs

-- each condition that the chain made can be read from its text
abbrev pub HaveConditions : Chain → Type 0
HaveConditions c = AllByRecursion (λ s. IsCond s.cond) (made_sources c)

-- when a source was made, and its condition
abbrev pub seen_in : Option Source → Option (ℕ × CondTree)
seen_in o = option_map (λ s. (s.time, s.cond)) o

abbrev pub seen_output : ℕ → Input → Option Output → Option (ℕ × CondTree)
seen_output t input None = None
seen_output t input (Some output) = if output.amount == input.amount && output.base == input.base then Some (t, output.cond) else None

-- the condition is true for these unlocks and issuers, where a source was found
abbrev pub IsSeenOpened : ℕ → List Unlock → List Text → Option (ℕ × CondTree) → Type 0
IsSeenOpened t unlocks issuers seen = MatchOption seen ⊤ (λ v. IsTrueAt (record { unlocks = unlocks; issuers = issuers; now = t; written = v.0 }) v.1)

-- each input of the transaction has one line of unlocks
abbrev pub AreUnlockedOnce : Tx → Type 0
AreUnlockedOnce tx = (i : ℕ) → i < length tx.inputs → count_by (λ line. line.input == i) tx.unlocks ≡ 1

-- G88 of a transaction
abbrev pub AreOpened : ℕ → Tx → List Source → Type 0
AreOpened t tx sources = AllByRecursion (IsOpened t tx sources) (enumerate_from 0 tx.inputs)

-- what is known of a block that stands to be judged at this time, whose transactions have these hashes
pub record IsRead (c : Chain) (b : Block) (t : ℕ) (keys : List Text) : Type 0 where
  pub sound : IsSound c
  pub conditions : HaveConditions c
  pub numbered : AreNumbered keys b
  pub not_before : time_of c ≤ t
