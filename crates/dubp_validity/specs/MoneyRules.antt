-- The rules on transactions and sources: `c` is the chain and `b` the block on it. Protocol: rules.
use Rattle.std.specs.Prelude.{ℕ, ◌+◌, ◌≤◌, ◌==◌, Bool, IsTrue, ◌&&◌, not, List, [], ◌∷◌, ◌++◌, filter, find, Option, ⊤}
use Rattle.std.specs.Option.{MatchOption, IsSomeAnd}
use Rattle.std.specs.List.{AllByRecursion, flat_map, enumerate_from}
use Rattle.dubp_verdict.specs.OfAtoms.{same_text}
use Rattle.dubp_chain.specs.OfCond.{Moment, IsTrueAt}
use Rattle.dubp_chain.specs.OfCond.{Unlock}
use Rattle.dubp_chain.specs.OfCond.{Input}
use Rattle.dubp_chain.specs.OfCond.{Tx}
use Rattle.dubp_chain.specs.OfBlock.{Block}
use Rattle.dubp_chain.specs.Words.{names, each_once}
use Rattle.dubp_chain.specs.Chains.{Chain}
use Rattle.dubp_chain.specs.Heads.{time_of, unit_base_of}
use Rattle.dubp_chain.specs.Made.{made}
use Rattle.dubp_validity.specs.PeopleRules.{IsInWindow}
use Rattle.dubp_chain.specs.Money.{Source, named_by, unspent, outputs_made, hashes_in, hashes_of}

-- X05: No transaction has the hash of a transaction of the chain, or of an earlier one of the block.
abbrev pub TransactionsAreNew : Chain → Block → Type 0
TransactionsAreNew c b =
    IsTrue (each_once same_text (hashes_in b)) × AllByRecursion (λ hash. IsTrue (not (names (hashes_of c) hash))) (hashes_in b)

-- how long a transaction may wait
abbrev pub tx_window : ℕ
tx_window = 604800

-- G103: The stamp of each transaction has a time, and t is at most 604,800 seconds above it.
abbrev pub TransactionsAreInTime : Chain → Block → Type 0
TransactionsAreInTime c b = AllByRecursion (λ tx. IsInWindow (time_of (b ∷ c)) tx_window (made c b tx.stamp)) b.transactions

-- Each transaction of a list with the sources that it may spend: those at hand, and the outputs of the transactions before it.
abbrev pub EachMay : (Tx → List Source → Type 0) → (Tx → List Source) → List Source → List Tx → Type 0
EachMay P outputs sources [] = ⊤
EachMay P outputs sources (tx ∷ txs) = P tx sources × EachMay P outputs (sources ++ outputs tx) txs

-- of a block on a chain: at first the unspent sources of the chain are at hand
abbrev pub EachSpends : Chain → Block → (Tx → List Source → Type 0) → Type 0
EachSpends c b P = EachMay P (outputs_made (time_of (b ∷ c)) b.currency) (unspent c) b.transactions

-- the source that the input spends: it has the input's name, amount and base
abbrev pub is_spent_by : Input → Source → Bool
is_spent_by input s = named_by input s && (s.amount == input.amount && s.base == input.base)

abbrev pub spent : List Source → Input → Option Source
spent sources input = find (is_spent_by input) sources

-- G87: Each input is an unspent source of the chain, or an output of an earlier transaction of the block, with its amount and
-- base.
abbrev pub InputsAreThere : Chain → Block → Type 0
InputsAreThere c b = EachSpends c b (λ tx sources. AllByRecursion (λ input. IsSomeAnd (spent sources input) (λ s. ⊤)) tx.inputs)

-- the unlocks of the input of this number
abbrev pub unlocks_of : Tx → ℕ → List Unlock
unlocks_of tx i = flat_map (λ line. line.list) (filter (λ line. line.input == i) tx.unlocks)

abbrev pub moment_of : ℕ → Tx → ℕ → Source → Moment
moment_of t tx i s = record { unlocks = unlocks_of tx i; issuers = tx.issuers; now = t; written = s.time }

-- G88: For each input for which G87 holds, the condition of its source is true.
abbrev pub IsOpened : ℕ → Tx → List Source → ℕ × Input → Type 0
IsOpened t tx sources (i, input) = MatchOption (spent sources input) ⊤ (λ s. IsTrueAt (moment_of t tx i s) s.cond)

abbrev pub ConditionsAreTrue : Chain → Block → Type 0
ConditionsAreTrue c b =
    EachSpends c b (λ tx sources. AllByRecursion (IsOpened (time_of (b ∷ c)) tx sources) (enumerate_from 0 tx.inputs))

-- G89: For each input for which G87 holds, t is at least Locktime above the median time of the block that made its source.
abbrev pub LocktimesHaveEnded : Chain → Block → Type 0
LocktimesHaveEnded c b =
    EachSpends c b (λ tx sources. AllByRecursion (λ input. MatchOption (spent sources input) ⊤ (λ s. s.time + tx.locktime ≤ time_of (b ∷ c))) tx.inputs)

-- G90: The base of each output is at most the unit base of the new chain.
abbrev pub OutputBasesFit : Chain → Block → Type 0
OutputBasesFit c b = AllByRecursion (λ tx. AllByRecursion (λ output. output.base ≤ unit_base_of (b ∷ c)) tx.outputs) b.transactions
