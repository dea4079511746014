-- What was issued is unspent or cleared. One block more takes from what is at hand what it spends and what it clears, and adds
-- what it makes, which is what it spends and what it issues.
use Rattle.std.proofs.Common.{◌≡◌, ℕ, ◌+◌, ◌*◌, Bool, true, false, not, ◌||◌, ◌&&◌, ◌==◌, List, [], ◌∷◌, ◌++◌, Option, Some, None, map, length, filter, sum_by, refl, ap, sym, ◌∙◌, subst, arith, mul-zero, mul-suc, add_comm, nat_lt}
use Rattle.std.specs.List.{AllByRecursion, list_any, flat_map, enumerate_from}
use Rattle.std.proofs.lemmas.List.Sums.{sum_by-cons, sum_by-append}
use Rattle.std.proofs.lemmas.List.Elements.{filter_agree}
use Rattle.std.proofs.lemmas.List.Folds.{list_any-append}
use Rattle.std.proofs.lemmas.Bool.Decides.{Decides-eqb}
use Rattle.dubp_atoms.specs.Same.{Text}
use Rattle.dubp_cond.specs.Conditions.{cond_text}
use Rattle.dubp_cond.specs.declared.source.Input.{Input}
use Rattle.dubp_cond.specs.declared.output.Output.{Output}
use Rattle.dubp_cond.specs.declared.tx.Tx.{Tx}
use Rattle.dubp_chain.specs.OfDocs.{tx_hash}
use Rattle.dubp_block.specs.declared.block.Block.{Block}
use Rattle.dubp_params.specs.declared.params.Params.{Params}
use Rattle.dubp_chain.specs.declared.head.Head.{Head}
use Rattle.dubp_chain.specs.Words.{each_once}
use Rattle.dubp_chain.specs.Chains.{Chain, params}
use Rattle.dubp_chain.specs.Members.{members}
use Rattle.dubp_chain.specs.Heads.{units, paid_units, next_head, heads_of, time_of, unit_base_of, issued}
use Rattle.dubp_chain.specs.Money.{Source, same_source, units_of, named_by, used, among, is_left, inputs_of, output_source, dividend_source, outputs_made, dividends_made, dividends_at, made_by, made_sources, units_of_cond, cleared_by, cleared, unspent, unspent_units, cleared_units}
use Rattle.dubp_validity.specs.LocalRules.{input_units, output_units, IsBalanced, TransactionsAreBalanced}
use Rattle.dubp_validity.specs.MoneyRules.{is_spent_by}
use Rattle.dubp_validity.specs.Rules.{IsSound}
use Rattle.dubp_laws.specs.Laws.{Conserves}
use Rattle.dubp_lists.proofs.Sums.{sum_named, AreApart}
use Rattle.dubp_lists.proofs.Elements.{and_left, and_right, not_true, all_from_in, in_all, any_in, filter_twice}
use Rattle.dubp_lists.proofs.Once.{each_once-map, apart}
use Rattle.dubp_laws.proofs.Sources.{same_source_is, same_source_own, SourcesApart, sources-filter, sum_of_source, sum_small}
use Rattle.dubp_laws.proofs.MadeOnce.{made_sources-once}
use Rattle.dubp_laws.proofs.Spending.{at_hand, is_there, Pays, pays, at_hand-is}
use Rattle.dubp_laws.proofs.Mass.{issued_at, mass-is}

-- ---- what is left after one block more

-- what stands before the clearing of b
abbrev rest : Chain → Block → List Source
rest c b = filter (is_left (b ∷ c) (cleared c)) (made_sources (b ∷ c))

-- an input of b names it
abbrev spent_by : Block → Source → Bool
spent_by b s = list_any (λ input. named_by input s) (inputs_of b)

split_gone : (u a s : Bool) → (not u && not (a || s)) ≡ ((not u && not a) && not s)
split_gone true a s = refl
split_gone false true s = refl
split_gone false false s = refl

split_used : (i u a : Bool) → (not (i || u) && not a) ≡ ((not u && not a) && not i)
split_used true true a = refl
split_used true false true = refl
split_used true false false = refl
split_used false true a = refl
split_used false false true = refl
split_used false false false = refl

-- the rest without what b clears
unspent-step : (c : Chain) (b : Block) → unspent (b ∷ c) ≡ filter (λ s. not (among (cleared_by c b (cleared c)) s)) (rest c b)
unspent-step c b =
    let small = cleared_by c b (cleared c) in
    filter_agree (is_left (b ∷ c) (cleared c ++ small)) (λ s. is_left (b ∷ c) (cleared c) s && not (among small s))
    (λ s. ap (λ x. not (used (b ∷ c) s) && not x) (list_any-append (λ other. same_source s.id other.id) (cleared c) small)
    ∙ split_gone (used (b ∷ c) s) (among (cleared c) s) (among small s)) (made_sources (b ∷ c))
    ∙ sym (filter_twice (λ s. not (among small s)) (is_left (b ∷ c) (cleared c)) (made_sources (b ∷ c)))

-- the rest is what is at hand, without what b spends
rest-step : (c : Chain) (b : Block) → Pays c b → rest c b ≡ filter (λ s. not (spent_by b s)) (at_hand c b)
rest-step c b p =
    filter_agree (is_left (b ∷ c) (cleared c)) (λ s. is_left c (cleared c) s && not (spent_by b s)) (λ s. split_used (spent_by b s) (used c s) (among (cleared c) s)) (made_sources (b ∷ c))
    ∙ sym (filter_twice (λ s. not (spent_by b s)) (is_left c (cleared c)) (made_sources (b ∷ c)))
    ∙ ap (λ l. filter (λ s. not (spent_by b s)) l) (at_hand-is c b p)

-- ---- what a block spends

same_units : (a a' n n' : ℕ) → (a == a' && n == n') ≡ true → units a n ≡ units a' n'
same_units a a' n n' e =
    let p = (Decides-eqb a a').0 (and_left (a == a') (n == n') e) in
    let q = (Decides-eqb n n').0 (and_right (a == a') (n == n') e) in
    λ i. units (p i) (q i)

-- of sources that stand once each, those that some inputs leave, and what these inputs say, are all
sum_spent : (hand : List Source) (inputs : List Input) → SourcesApart hand → each_once same_source (map (λ i. i.source) inputs) ≡ true
    → AllByRecursion (λ i. is_there hand i ≡ true) inputs
    → sum_by units_of (filter (λ s. not (list_any (λ i. named_by i s) inputs)) hand) + sum_by input_units inputs ≡ sum_by units_of hand
sum_spent hand inputs once inputs_once there =
    sum_named units_of named_by input_units inputs hand
    (inputs_apart inputs (sym (each_once-map same_source (λ (i : Input). i.source) inputs) ∙ inputs_once))
    (all_from_in _ inputs (λ i here. named i (in_all _ inputs there i here)))
  where
    inputs_apart : (is : List Input) → each_once (λ (i j : Input). same_source i.source j.source) is ≡ true → AreApart units_of named_by input_units is
    inputs_apart [] o = tt
    inputs_apart (i ∷ is) o = (
      λ s same. apart same_source same_source_is same_source_own (λ (s : Source). s.id) (λ (i : Input). i.source) s i is same
          (not_true _ (and_left _ (each_once (λ (i j : Input). same_source i.source j.source) is) o)),
      inputs_apart is (and_right (not (list_any (λ (j : Input). same_source i.source j.source) is)) _ o),
    )

    named : (i : Input) → is_there hand i ≡ true → sum_by units_of (filter (named_by i) hand) ≡ input_units i
    named i here =
        let found = any_in (is_spent_by i) hand here in
        let s = found.0 in
        let is : s.id ≡ i.source = same_source_is _ _ (and_left (named_by i s) (s.amount == i.amount && s.base == i.base) found.2) in
        subst (λ id. sum_by units_of (filter (λ x. same_source x.id id) hand) ≡ units_of s) is (sum_of_source hand s once found.1)
        ∙ same_units s.amount i.amount s.base i.base (and_right (named_by i s) (s.amount == i.amount && s.base == i.base) found.2)

-- ---- what a block makes

-- the outputs of a transaction, from the n-th on
made_from : (time n : ℕ) (hash : Text) (outputs : List Output)
    → sum_by units_of (map (output_source time hash) (enumerate_from n outputs)) ≡ sum_by output_units outputs
made_from time n hash [] = refl
made_from time n hash (o ∷ outputs) =
    sum_by-cons units_of (output_source time hash (n, o)) (map (output_source time hash) (enumerate_from (n + 1) outputs))
    ∙ ap (λ m. output_units o + m) (made_from time (n + 1) hash outputs)
    ∙ sym (sum_by-cons output_units o outputs)

-- where every transaction is balanced, what is made by them is what they spend
sum_outputs : (time : ℕ) (currency : Text) (txs : List Tx) → AllByRecursion IsBalanced txs
    → sum_by units_of (flat_map (outputs_made time currency) txs) ≡ sum_by input_units (flat_map (λ tx. tx.inputs) txs)
sum_outputs time currency [] balanced = refl
sum_outputs time currency (tx ∷ txs) balanced =
    sum_by-append units_of (outputs_made time currency tx) (flat_map (outputs_made time currency) txs)
    ∙ (λ i. made_from time 0 (tx_hash currency tx) tx.outputs i + sum_outputs time currency txs balanced.1 i)
    ∙ ap (λ m. m + sum_by input_units (flat_map (λ tx. tx.inputs) txs)) (sym balanced.0)
    ∙ sym (sum_by-append input_units tx.inputs (flat_map (λ tx. tx.inputs) txs))

sum_shares : (time number amount base : ℕ) (keys : List Text)
    → sum_by units_of (map (dividend_source time number amount base) keys) ≡ units amount base * length keys
sum_shares time number amount base [] = sym (mul-zero _)
sum_shares time number amount base (k ∷ ks) =
    sum_by-cons units_of (dividend_source time number amount base k) (map (dividend_source time number amount base) ks)
    ∙ ap (λ m. units amount base + m) (sum_shares time number amount base ks)
    ∙ add_comm (units amount base) (units amount base * length ks)
    ∙ sym (mul-suc (units amount base) (length ks))

sum_dividends : (time number : ℕ) (paid : Option ℕ) (base : ℕ) (keys : List Text)
    → sum_by units_of (dividends_made time number paid base keys) ≡ paid_units paid base (length keys)
sum_dividends time number None base keys = refl
sum_dividends time number (Some amount) base keys = sum_shares time number amount base keys

-- the head of a chain with a block counts the members that it was given
counted_members : (p : Params) (n : ℕ) (hs : List Head) (b : Block) → (next_head p n hs b).members ≡ n
counted_members p n [] b = refl
counted_members p n (h ∷ hs) b = refl

-- the head of c with b
abbrev head_with : Chain → Block → Head
head_with c b = next_head (params (b ∷ c)) (length (members (b ∷ c))) (heads_of c) b

sum_dividends_at : (number : ℕ) (h : Head) (keys : List Text) → h.members ≡ length keys
    → sum_by units_of (dividends_at number (Some h) keys) ≡ issued_at h
sum_dividends_at number h keys count = sum_dividends h.median_time number h.ud h.unit_base keys ∙ ap (λ n. paid_units h.ud h.unit_base n) (sym count)

sum_made : (time : ℕ) (currency : Text) (txs : List Tx) (number : ℕ) (h : Head) (keys : List Text)
    → AllByRecursion IsBalanced txs → h.members ≡ length keys
    → sum_by units_of (flat_map (outputs_made time currency) txs ++ dividends_at number (Some h) keys)
    ≡ sum_by input_units (flat_map (λ tx. tx.inputs) txs) + issued_at h
sum_made time currency txs number h keys balanced count =
    sum_by-append units_of (flat_map (outputs_made time currency) txs) (dividends_at number (Some h) keys)
    ∙ (λ i. sum_outputs time currency txs balanced i + sum_dividends_at number h keys count i)

sum_made_by : (c : Chain) (b : Block) → TransactionsAreBalanced b → sum_by units_of (made_by c b) ≡ sum_by input_units (inputs_of b) + issued_at (head_with c b)
sum_made_by c b balanced =
    sum_made (time_of (b ∷ c)) b.currency b.transactions b.number (head_with c b) (members (b ∷ c)) balanced
    (counted_members (params (b ∷ c)) (length (members (b ∷ c))) (heads_of c) b)

-- ---- conservation

-- the steps of a block as numbers: what it leaves and clears is what was unspent and what it issues
balance_of_block : (unspent' small rest' hand inputs unspent_before made new : ℕ)
    → unspent' + small ≡ rest' → rest' + inputs ≡ hand → hand ≡ unspent_before + made → made ≡ inputs + new
    → unspent' + small ≡ unspent_before + new
balance_of_block unspent' small rest' hand inputs unspent_before made new cleared spent' whole paid = omega arith

-- what b leaves and clears is what was unspent and what b issues
block_conserves : (c : Chain) (b : Block) → Pays c b
    → unspent_units (b ∷ c) + sum_by units_of (cleared_by c b (cleared c)) ≡ unspent_units c + issued_at (head_with c b)
block_conserves c b p =
    balance_of_block (unspent_units (b ∷ c)) (sum_by units_of (cleared_by c b (cleared c))) (sum_by units_of (rest c b)) (sum_by units_of (at_hand c b))
    (sum_by input_units (inputs_of b)) (unspent_units c) (sum_by units_of (made_by c b)) (issued_at (head_with c b))
    (ap (λ xs. sum_by units_of xs + sum_by units_of (cleared_by c b (cleared c))) (unspent-step c b)
    ∙ sum_small (λ s. nat_lt (units_of_cond (cond_text s.cond) (rest c b)) (units 100 (unit_base_of (b ∷ c)))) (rest c b) rest_once)
    (ap (λ xs. sum_by units_of xs + sum_by input_units (inputs_of b)) (rest-step c b p)
    ∙ sum_spent (at_hand c b) (inputs_of b) hand_once p.inputs_once p.there)
    (sum_by-append units_of (unspent c) (made_by c b))
    (sum_made_by c b p.balanced)
  where
    rest_once : SourcesApart (rest c b)
    rest_once = sources-filter (is_left (b ∷ c) (cleared c)) (made_sources (b ∷ c)) p.once

    hand_once : SourcesApart (at_hand c b)
    hand_once = subst SourcesApart (at_hand-is c b p) (sources-filter (is_left c (cleared c)) (made_sources (b ∷ c)) p.once)

-- one block more, as numbers
one_more : (issued' unspent' cleared' new issued_before unspent_before cleared_before small : ℕ)
    → issued' ≡ new + issued_before → issued_before ≡ unspent_before + cleared_before
    → unspent' + small ≡ unspent_before + new → cleared' ≡ cleared_before + small → issued' ≡ unspent' + cleared'
one_more issued' unspent' cleared' new issued_before unspent_before cleared_before small adds before block gone = omega arith

-- by induction on the chain
units_are : (c : Chain) → IsSound c → issued c ≡ unspent_units c + cleared_units c
units_are [] sound = refl
units_are (b ∷ c) sound =
    one_more (issued (b ∷ c)) (unspent_units (b ∷ c)) (cleared_units (b ∷ c)) (issued_at (head_with c b)) (issued c) (unspent_units c) (cleared_units c)
    (sum_by units_of (cleared_by c b (cleared c)))
    (sum_by-cons issued_at (head_with c b) (heads_of c))
    (units_are c sound.1)
    (block_conserves c b (pays c b sound))
    (sum_by-append units_of (cleared c) (cleared_by c b (cleared c)))

-- the law
pub conserves : Conserves
conserves c sound = record {
  units = units_are c sound;
  mass = mass-is c;
  once = each_once-map same_source (λ (s : Source). s.id) (made_sources c) ∙ made_sources-once c sound;
}
