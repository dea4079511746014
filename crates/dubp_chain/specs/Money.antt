-- The money of a chain: the sources that were made, used and cleared, what is left, and what a condition has. Protocol: money.
use Rattle.std.specs.Prelude.{ℕ, Bool, false, not, ◌&&◌, ◌==◌, List, [], ◌∷◌, ◌++◌, Option, Some, None, map, filter, sum_by, nat_lt}
use Rattle.std.specs.List.{list_any, flat_map, enumerate_from}
use Rattle.dubp_time.specs.OfAtoms.{Text, same_text}
use Rattle.dubp_block.specs.OfCond.{CondTree, sig, no_items, add_item, no_alls, add_all}
use Rattle.dubp_block.specs.OfCond.{cond_text}
use Rattle.dubp_block.specs.OfCond.{SourceId}
use Rattle.dubp_block.specs.OfCond.{D, T}
use Rattle.dubp_block.specs.OfCond.{Input}
use Rattle.dubp_block.specs.OfCond.{Output}
use Rattle.dubp_block.specs.OfCond.{Tx}
use Rattle.dubp_docs.specs.Spelling.{tx_hash}
use Rattle.dubp_block.specs.declared.block.Block.{Block}
use Rattle.dubp_chain.specs.Chains.{Chain}
use Rattle.dubp_chain.specs.Members.{members}
use Rattle.dubp_chain.specs.Heads.{units, time_of, unit_base_of, head_of}
use Rattle.dubp_chain.specs.declared.head.Head.{Head}

abbrev pub same_source : SourceId → SourceId → Bool
same_source (D key block) (D key' block') = same_text key key' && block == block'
same_source (T tx index) (T tx' index') = same_text tx tx' && index == index'
same_source (D key block) (T tx index) = false
same_source (T tx index) (D key block) = false

-- a source, with the median time of the block that made it
pub record Source : Type 0 where
  pub id : SourceId
  pub amount : ℕ
  pub base : ℕ
  pub cond : CondTree
  pub time : ℕ

abbrev pub units_of : Source → ℕ
units_of s = units s.amount s.base

-- SIG(k)
abbrev pub signed_by : Text → CondTree
signed_by k = add_all (add_item (sig k) no_items) no_alls

-- an output at its place in the transaction of this hash
abbrev pub output_source : ℕ → Text → ℕ × Output → Source
output_source time hash (place, output) = record { id = T hash place; amount = output.amount; base = output.base; cond = output.cond; time = time }

-- the outputs of a transaction, in order
abbrev pub outputs_made : ℕ → Text → Tx → List Source
outputs_made time currency tx = map (output_source time (tx_hash currency tx)) (enumerate_from 0 tx.outputs)

abbrev pub dividend_source : ℕ → ℕ → ℕ → ℕ → Text → Source
dividend_source time number amount base k = record { id = D k number; amount = amount; base = base; cond = signed_by k; time = time }

-- where a dividend is paid, one source for each of these members
abbrev pub dividends_made : ℕ → ℕ → Option ℕ → ℕ → List Text → List Source
dividends_made time number None base keys = []
dividends_made time number (Some amount) base keys = map (dividend_source time number amount base) keys

-- what the head of a chain pays to its members, by key
abbrev pub dividends_at : ℕ → Option Head → List Text → List Source
dividends_at number None keys = []
dividends_at number (Some h) keys = dividends_made h.median_time number h.ud h.unit_base keys

-- the sources that b makes on c, in order: the outputs of its transactions, then its dividends
abbrev pub made_by : Chain → Block → List Source
made_by c b =
    flat_map (outputs_made (time_of (b ∷ c)) b.currency) b.transactions
    ++ dividends_at b.number (head_of (b ∷ c)) (members (b ∷ c))

-- all sources, in the order of making
abbrev pub made_sources : Chain → List Source
made_sources [] = []
made_sources (b ∷ c) = made_sources c ++ made_by c b

abbrev pub inputs_of : Block → List Input
inputs_of b = flat_map (λ tx. tx.inputs) b.transactions

-- the input names the source
abbrev pub named_by : Input → Source → Bool
named_by input s = same_source s.id input.source

-- an input of the chain names it
abbrev pub used : Chain → Source → Bool
used c s = list_any (λ b. list_any (λ input. named_by input s) (inputs_of b)) c

abbrev pub among : List Source → Source → Bool
among sources s = list_any (λ other. same_source s.id other.id) sources

-- neither used nor one of those that are gone
abbrev pub is_left : Chain → List Source → Source → Bool
is_left c gone s = not (used c s) && not (among gone s)

-- the units of those with the condition of this text
abbrev pub units_of_cond : Text → List Source → ℕ
units_of_cond cond sources = sum_by units_of (filter (λ s. same_text cond (cond_text s.cond)) sources)

-- those whose condition has, over these sources alone, less than 100 × 10 ^ base units
abbrev pub small_change : ℕ → List Source → List Source
small_change base sources = filter (λ s. nat_lt (units_of_cond (cond_text s.cond) sources) (units 100 base)) sources

-- block by block: what is neither used nor cleared before is cleared where its condition has too little
abbrev pub cleared_by : Chain → Block → List Source → List Source
cleared_by c b before = small_change (unit_base_of (b ∷ c)) (filter (is_left (b ∷ c) before) (made_sources (b ∷ c)))

abbrev pub cleared : Chain → List Source
cleared [] = []
cleared (b ∷ c) = cleared c ++ cleared_by c b (cleared c)

abbrev pub unspent : Chain → List Source
unspent c = filter (is_left c (cleared c)) (made_sources c)

-- the units that are unspent, and that were cleared
abbrev pub unspent_units : Chain → ℕ
unspent_units c = sum_by units_of (unspent c)

abbrev pub cleared_units : Chain → ℕ
cleared_units c = sum_by units_of (cleared c)

-- the units and the unspent sources of a condition
abbrev pub balance : Chain → Text → ℕ
balance c cond = units_of_cond cond (unspent c)

abbrev pub sources_of : Chain → Text → List Source
sources_of c cond = filter (λ s. same_text cond (cond_text s.cond)) (unspent c)

-- the hashes of the transactions of a block, and of a chain
abbrev pub hashes_in : Block → List Text
hashes_in b = map (tx_hash b.currency) b.transactions

abbrev pub hashes_of : Chain → List Text
hashes_of c = flat_map hashes_in c
