-- What one block more does to the money of a chain, in the words that a step of the tables needs. Protocol: money.
use Rattle.std.specs.Prelude.{◌≡◌, ℕ, ◌+◌, ◌≤◌, Bool, not, ◌||◌, List, [], ◌∷◌, ◌++◌, filter, length, sum_by, nat_lt, fold, if◌then◌else◌}
use Rattle.std.specs.List.{list_any, flat_map, enumerate_from}
use Rattle.dubp_atoms.specs.Same.{Text, same_text}
use Rattle.dubp_cond.specs.Conditions.{cond_text}
use Rattle.dubp_cond.specs.declared.tx.Tx.{Tx}
use Rattle.dubp_block.specs.declared.block.Block.{Block}
use Rattle.dubp_chain.specs.declared.head.Head.{Head}
use Rattle.dubp_chain.specs.Words.{names}
use Rattle.dubp_chain.specs.Chains.{Chain, params}
use Rattle.dubp_chain.specs.Members.{members}
use Rattle.dubp_chain.specs.Heads.{units, paid_units, next_head, heads_of, head_of, time_of, unit_base_of, issued}
use Rattle.dubp_chain.specs.Money.{Source, units_of, named_by, is_left, outputs_made, dividends_at, made_sources, units_of_cond, cleared_by, cleared, unspent, unspent_units, cleared_units, balance, sources_of, hashes_in}
use Rattle.dubp_chain.specs.Tables.{has_transaction}

-- what stands when b has spent and made, and has not cleared yet
abbrev pub rest : Chain → Block → List Source
rest c b = filter (is_left (b ∷ c) (cleared c)) (made_sources (b ∷ c))

-- 100 × 10 ^ unit base
abbrev pub limit_of : Chain → ℕ
limit_of c = units 100 (unit_base_of c)

-- over these sources a condition has too little
abbrev pub is_small : ℕ → List Source → Text → Bool
is_small limit sources cond = nat_lt (units_of_cond cond sources) limit

-- Clearing by balances. Every condition is asked, also one that the block does not name, since the limit may have risen.
pub record ClearsByBalance (c : Chain) (b : Block) : Type 0 where
  pub cleared : cleared_by c b (cleared c) ≡ filter (λ s. is_small (limit_of (b ∷ c)) (rest c b) (cond_text s.cond)) (rest c b)
  pub left : unspent (b ∷ c) ≡ filter (λ s. not (is_small (limit_of (b ∷ c)) (rest c b) (cond_text s.cond))) (rest c b)
  -- a condition keeps all or nothing
  pub balances : (cond : Text) → balance (b ∷ c) cond ≡ (if is_small (limit_of (b ∷ c)) (rest c b) cond then 0 else units_of_cond cond (rest c b))
  pub sources : (cond : Text) → sources_of (b ∷ c) cond ≡ (if is_small (limit_of (b ∷ c)) (rest c b) cond then [] else filter (λ s. same_text cond (cond_text s.cond)) (rest c b))

-- The limit never falls.
abbrev pub LimitStays : Chain → Block → Type 0
LimitStays c b = limit_of c ≤ limit_of (b ∷ c)

-- the head of the chain with b
abbrev pub head_with : Chain → Block → Head
head_with c b = next_head (params (b ∷ c)) (length (members (b ∷ c))) (heads_of c) b

-- the units that the chain with b issues besides
abbrev pub issued_by : Chain → Block → ℕ
issued_by c b = let h = head_with c b in paid_units h.ud h.unit_base h.members

abbrev pub cleared_units_by : Chain → Block → ℕ
cleared_units_by c b = sum_by units_of (cleared_by c b (cleared c))

-- what the transactions of b make, and the dividends
abbrev pub outputs_of : Chain → Block → List Source
outputs_of c b = flat_map (outputs_made (time_of (b ∷ c)) b.currency) b.transactions

abbrev pub dividends_of : Chain → Block → List Source
dividends_of c b = dividends_at b.number (head_of (b ∷ c)) (members (b ∷ c))

-- The totals go on by three numbers: what the head issues, the units of what is cleared, and how many sources were made.
pub record TotalsGoOn (c : Chain) (b : Block) : Type 0 where
  pub issued : issued (b ∷ c) ≡ issued c + issued_by c b
  pub cleared : cleared_units (b ∷ c) ≡ cleared_units c + cleared_units_by c b
  pub unspent : unspent_units (b ∷ c) + cleared_units_by c b ≡ unspent_units c + issued_by c b
  pub made : length (made_sources (b ∷ c)) ≡ length (made_sources c) + length (outputs_of c b) + length (dividends_of c b)

-- a hash is one of the block, or was there
abbrev pub TransactionsGoOn : Chain → Block → Type 0
TransactionsGoOn c b = (hash : Text) → has_transaction (b ∷ c) hash ≡ (names (hashes_in b) hash || has_transaction c hash)

-- The unspent sources of a chain, each with its place in the order of making; and those that stand before b clears.
abbrev pub numbered : Chain → List (ℕ × Source)
numbered c = filter (λ p. is_left c (cleared c) p.1) (enumerate_from 0 (made_sources c))

abbrev pub numbered_rest : Chain → Block → List (ℕ × Source)
numbered_rest c b = filter (λ p. is_left (b ∷ c) (cleared c) p.1) (enumerate_from 0 (made_sources (b ∷ c)))

-- A transaction takes what its inputs name, and then puts what it makes behind the others, counted on.
abbrev pub transacted : ℕ → Text → ℕ × List (ℕ × Source) → Tx → ℕ × List (ℕ × Source)
transacted time currency state tx =
    let made = outputs_made time currency tx in (
      state.0 + length made,
      filter (λ p. not (list_any (λ i. named_by i p.1) tx.inputs)) state.1 ++ enumerate_from state.0 made,
    )

abbrev pub all_transacted : Chain → Block → ℕ × List (ℕ × Source)
all_transacted c b = fold (transacted (time_of (b ∷ c)) b.currency) (length (made_sources c), numbered c) b.transactions

abbrev pub SpendsAndMakes : Chain → Block → Type 0
SpendsAndMakes c b = numbered_rest c b ≡ (all_transacted c b).1 ++ enumerate_from (all_transacted c b).0 (dividends_of c b)
