-- No source of a chain is made later than its time.
use Rattle.std.proofs.Common.{ℕ, ◌+◌, ◌≤◌, List, [], ◌∷◌, Option, Some, None, map, arith}
use Rattle.std.specs.Option.{option_map_or}
use Rattle.std.specs.List.{AllByRecursion, flat_map, enumerate_from}
use Rattle.dubp_atoms.specs.Same.{Text}
use Rattle.dubp_cond.specs.declared.output.Output.{Output}
use Rattle.dubp_cond.specs.declared.tx.Tx.{Tx}
use Rattle.dubp_docs.specs.Spelling.{tx_hash}
use Rattle.dubp_chain.specs.declared.head.Head.{Head}
use Rattle.dubp_chain.specs.Chains.{Chain}
use Rattle.dubp_chain.specs.Heads.{time_of, head_of}
use Rattle.dubp_chain.specs.Members.{members}
use Rattle.dubp_chain.specs.Money.{Source, output_source, outputs_made, dividend_source, dividends_made, dividends_at, made_by, made_sources, is_left, cleared, unspent}
use Rattle.dubp_lists.proofs.Elements.{all_append, all_more, in_all, in_filter, all_from_in}
use Rattle.dubp_lists.proofs.LastLines.{time_of-rises}

abbrev IsBy : ℕ → Source → Type 0
IsBy t s = s.time ≤ t

outputs_by : (t : ℕ) (hash : Text) (n : ℕ) (os : List Output) → AllByRecursion (IsBy t) (map (output_source t hash) (enumerate_from n os))
outputs_by t hash n [] = tt
outputs_by t hash n (o ∷ os) = (omega arith, outputs_by t hash (n + 1) os)

all_outputs_by : (t : ℕ) (currency : Text) (txs : List Tx) → AllByRecursion (IsBy t) (flat_map (outputs_made t currency) txs)
all_outputs_by t currency [] = tt
all_outputs_by t currency (tx ∷ txs) =
    all_append (IsBy t) (outputs_made t currency tx) (flat_map (outputs_made t currency) txs) (outputs_by t (tx_hash currency tx) 0 tx.outputs) (all_outputs_by t currency txs)

each_by : (t number amount base : ℕ) (keys : List Text) → AllByRecursion (IsBy t) (map (dividend_source t number amount base) keys)
each_by t number amount base [] = tt
each_by t number amount base (k ∷ keys) = (omega arith, each_by t number amount base keys)

dividends_by : (t number : ℕ) (ud : Option ℕ) (base : ℕ) (keys : List Text) → AllByRecursion (IsBy t) (dividends_made t number ud base keys)
dividends_by t number None base keys = tt
dividends_by t number (Some amount) base keys = each_by t number amount base keys

paid_by : (number : ℕ) (head : Option Head) (keys : List Text) → AllByRecursion (IsBy (option_map_or (λ h. h.median_time) head 0)) (dividends_at number head keys)
paid_by number None keys = tt
paid_by number (Some h) keys = dividends_by h.median_time number h.ud h.unit_base keys

pub made_times : (c : Chain) → AllByRecursion (λ s. s.time ≤ time_of c) (made_sources c)
made_times [] = tt
made_times (b ∷ c) =
    let t = time_of (b ∷ c) in
    let rises = time_of-rises b c in
    let outputs = flat_map (outputs_made t b.currency) b.transactions in
    let paid = dividends_at b.number (head_of (b ∷ c)) (members (b ∷ c)) in
    all_append (IsBy t) (made_sources c) (made_by c b)
    (all_more (IsBy (time_of c)) (IsBy t) (λ s early. omega (arith, early, rises)) (made_sources c) (made_times c))
    (all_append (IsBy t) outputs paid (all_outputs_by t b.currency b.transactions) (paid_by b.number (head_of (b ∷ c)) (members (b ∷ c))))

pub unspent_all : (P : Source → Type 0) (c : Chain) → AllByRecursion P (made_sources c) → AllByRecursion P (unspent c)
unspent_all P c all = all_from_in P (unspent c) (λ s there. in_all P (made_sources c) all s (in_filter (is_left c (cleared c)) (made_sources c) s there).0)
