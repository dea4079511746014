-- What the transactions of a block and its dividends do to the unspent sources, one after the other.
use Rattle.std.proofs.Common.{◌≡◌, ℕ, ◌+◌, Bool, true, false, not, ◌||◌, ◌&&◌, List, [], ◌∷◌, ◌++◌, filter, fold, length, refl, ap, sym, ◌∙◌, subst, true≢false, inl, inr, arith, append_assoc, append-nil, add-zero, zero-add, length-append}
use Rattle.std.specs.List.{list_any, enumerate_from, flat_map}
use Rattle.std.proofs.lemmas.List.Elements.{filter_agree, filter-append}
use Rattle.std.proofs.lemmas.List.Folds.{list_any-append}
use Rattle.dubp_atoms.specs.Same.{Text}
use Rattle.dubp_cond.specs.declared.source.SourceId.{SourceId}
use Rattle.dubp_cond.specs.declared.source.Input.{Input}
use Rattle.dubp_cond.specs.declared.tx.Tx.{Tx}
use Rattle.dubp_block.specs.declared.block.Block.{Block}
use Rattle.dubp_rules.specs.declared.rule.Rule.TheVariants.{G87}
use Rattle.dubp_chain.specs.Chains.{Chain}
use Rattle.dubp_chain.specs.Heads.{time_of}
use Rattle.dubp_chain.specs.Money.{Source, named_by, used, among, is_left, inputs_of, outputs_made, made_sources, cleared, unspent}
use Rattle.dubp_laws.specs.OfValidity.{IsSound}
use Rattle.dubp_laws.proofs.OfLists.{is_false, IsIn, in_any, in_left, filter_true, filter_twice}
use Rattle.dubp_laws.proofs.Sources.{same_source_own, SourcesApart, sources-filter}
use Rattle.dubp_laws.proofs.Spending.{Pays, pays, at_hand-is}
use Rattle.dubp_laws.proofs.SourceRows.{has_id}
use Rattle.dubp_laws.proofs.SourceRecords.{MadeBefore, made_before, not_behind}
use Rattle.dubp_money_steps.specs.Steps.{dividends_of, outputs_of, numbered, numbered_rest, transacted, SpendsAndMakes}

-- an input of these names the source
abbrev named_in : List Input → ℕ × Source → Bool
named_in inputs q = list_any (λ i. named_by i q.1) inputs

-- none of these inputs names one of these sources
abbrev NamesNone : List Input → List Source → Type 0
NamesNone inputs ss = (s : Source) → IsIn s ss → list_any (λ i. named_by i s) inputs ≡ false

-- the inputs of each transaction name neither what it makes nor what stands behind that
abbrev EachNamesNone : (Tx → List Source) → List Tx → Type 0
EachNamesNone outputs [] = Unit {0}
EachNamesNone outputs (tx ∷ txs) = NamesNone tx.inputs (outputs tx ++ flat_map outputs txs) × EachNamesNone outputs txs

enumerate-append : (n : ℕ) (xs ys : List Source) → enumerate_from n (xs ++ ys) ≡ enumerate_from n xs ++ enumerate_from (n + length xs) ys
enumerate-append n [] ys = ap (λ m. enumerate_from m ys) (sym (add-zero n))
enumerate-append n (x ∷ xs) ys = ap (λ l. (n, x) ∷ l) (enumerate-append (n + 1) xs ys ∙ ap (λ m. enumerate_from (n + 1) xs ++ enumerate_from m ys) (omega arith))

keeps_all : (p : Source → Bool) (n : ℕ) (ss : List Source) → ((s : Source) → IsIn s ss → p s ≡ true) → filter (λ (q : ℕ × Source). p q.1) (enumerate_from n ss) ≡ enumerate_from n ss
keeps_all p n [] all = refl
keeps_all p n (s ∷ ss) all =
    let here : p s ≡ true = all s (inl refl) in
    rw here (ap (λ l. (n, s) ∷ l) (keeps_all p (n + 1) ss (λ x there. all x (inr there))))

neither : (a b : Bool) → (not a && not b) ≡ not (a || b)
neither true b = refl
neither false b = refl

module _ (time : ℕ) (currency : Text) where
  abbrev outputs : Tx → List Source
  outputs = outputs_made time currency

  abbrev inputs : List Tx → List Input
  inputs txs = flat_map (λ tx. tx.inputs) txs

  transacted_is : (txs : List Tx) (n : ℕ) (qs : List (ℕ × Source)) → EachNamesNone outputs txs
      → fold (transacted time currency) (n, qs) txs ≡ (n + length (flat_map outputs txs), filter (λ q. not (named_in (inputs txs) q)) (qs ++ enumerate_from n (flat_map outputs txs)))
  transacted_is [] n qs none = λ i. (sym (add-zero n) i, (sym (append-nil qs) ∙ sym (filter_true (qs ++ []))) i)
  transacted_is (tx ∷ txs) n qs none =
      let made = outputs tx in
      let later = flat_map outputs txs in
      let kept = filter (λ q. not (named_in tx.inputs q)) qs in
      transacted_is txs (n + length made) (kept ++ enumerate_from n made) none.1
      ∙ (λ i. (counted made later i, filter (λ q. not (named_in (inputs txs) q)) (regrouped i)))
      ∙ ap (λ l. (n + length (made ++ later), l))
      (filter_twice (λ q. not (named_in (inputs txs) q)) (λ q. not (named_in tx.inputs q)) (qs ++ enumerate_from n (made ++ later))
      ∙ filter_agree (λ q. not (named_in tx.inputs q) && not (named_in (inputs txs) q)) (λ q. not (named_in (inputs (tx ∷ txs)) q))
      (λ q. neither (named_in tx.inputs q) (named_in (inputs txs) q) ∙ ap not (sym (list_any-append (λ i. named_by i q.1) tx.inputs (inputs txs)))) (qs ++ enumerate_from n (made ++ later)))
    where
      counted : (made later : List Source) → n + length made + length later ≡ n + length (made ++ later)
      counted made later = omega (arith, length-append made later)

      regrouped : (filter (λ q. not (named_in tx.inputs q)) qs ++ enumerate_from n (outputs tx)) ++ enumerate_from (n + length (outputs tx)) (flat_map outputs txs)
          ≡ filter (λ q. not (named_in tx.inputs q)) (qs ++ enumerate_from n (outputs tx ++ flat_map outputs txs))
      regrouped =
          append_assoc (filter (λ q. not (named_in tx.inputs q)) qs) (enumerate_from n (outputs tx)) (enumerate_from (n + length (outputs tx)) (flat_map outputs txs))
          ∙ ap (λ l. filter (λ q. not (named_in tx.inputs q)) qs ++ l)
          (sym (enumerate-append n (outputs tx) (flat_map outputs txs))
          ∙ sym (keeps_all (λ s. not (list_any (λ i. named_by i s) tx.inputs)) n (outputs tx ++ flat_map outputs txs) (λ s there. ap not (none.0 s there))))
          ∙ sym (filter-append (λ q. not (named_in tx.inputs q)) qs (enumerate_from n (outputs tx ++ flat_map outputs txs)))

-- since an input names what was made before it, and no source is made twice
each_names_none : (outputs : Tx → List Source) (more : List Source) (txs : List Tx) → ((id : SourceId) → MadeBefore id outputs more txs) → EachNamesNone outputs txs
each_names_none outputs more [] before = tt
each_names_none outputs more (tx ∷ txs) before = (
  λ s there. is_false (list_any (λ i. named_by i s) tx.inputs) (λ named.
      true≢false (sym (in_any (has_id s.id) (outputs tx ++ (flat_map outputs txs ++ more)) s
      (subst (IsIn s) (append_assoc (outputs tx) (flat_map outputs txs) more) (in_left s (outputs tx ++ flat_map outputs txs) more there)) (same_source_own s.id))
      ∙ (before s.id).0 named)),
  each_names_none outputs more txs (λ id. (before id).1),
)

split_used : (i u a : Bool) → (not (i || u) && not a) ≡ ((not u && not a) && not i)
split_used true true a = refl
split_used true false true = refl
split_used true false false = refl
split_used false true a = refl
split_used false false true = refl
split_used false false false = refl

module _ (c : Chain) (b : Block) (sound : IsSound (b ∷ c)) where
  pays_block : Pays c b
  pays_block = pays c b sound

  before : (id : SourceId) → MadeBefore id (outputs_made (time_of (b ∷ c)) b.currency) (dividends_of c b) b.transactions
  before id =
      made_before id (outputs_made (time_of (b ∷ c)) b.currency) (unspent c) (dividends_of c b) b.transactions
      (subst SourcesApart (at_hand-is c b pays_block) (sources-filter (is_left c (cleared c)) (made_sources (b ∷ c)) pays_block.once))
      (sound.0 G87 refl)

  abbrev spent : ℕ × Source → Bool
  spent q = named_in (inputs_of b) q

  dividends_kept : (n : ℕ) → filter (λ q. not (spent q)) (enumerate_from n (dividends_of c b)) ≡ enumerate_from n (dividends_of c b)
  dividends_kept n =
      keeps_all (λ s. not (list_any (λ i. named_by i s) (inputs_of b))) n (dividends_of c b)
      (λ s there. ap not (is_false (list_any (λ i. named_by i s) (inputs_of b)) (λ named.
      true≢false (sym (in_any (has_id s.id) (dividends_of c b) s there (same_source_own s.id)) ∙ not_behind s.id (outputs_made (time_of (b ∷ c)) b.currency) (dividends_of c b) b.transactions (before s.id) named))))

  new_kept : (n : ℕ) → filter (λ (q : ℕ × Source). is_left c (cleared c) q.1) (enumerate_from n (outputs_of c b ++ dividends_of c b)) ≡ enumerate_from n (outputs_of c b ++ dividends_of c b)
  new_kept n = keeps_all (is_left c (cleared c)) n (outputs_of c b ++ dividends_of c b) (λ s there. let h = pays_block.fresh s there in rw (h.0, h.1) refl)

  abbrev count : ℕ
  count = length (made_sources c)

  rest_is : numbered_rest c b ≡ filter (λ q. not (spent q)) (numbered c ++ enumerate_from count (outputs_of c b ++ dividends_of c b))
  rest_is =
      filter_agree (λ (q : ℕ × Source). is_left (b ∷ c) (cleared c) q.1) (λ q. is_left c (cleared c) q.1 && not (spent q)) (λ q. split_used (spent q) (used c q.1) (among (cleared c) q.1)) (enumerate_from 0 (made_sources (b ∷ c)))
      ∙ sym (filter_twice (λ q. not (spent q)) (λ (q : ℕ × Source). is_left c (cleared c) q.1) (enumerate_from 0 (made_sources (b ∷ c))))
      ∙ ap (filter (λ q. not (spent q)))
      (ap (filter (λ (q : ℕ × Source). is_left c (cleared c) q.1)) (enumerate-append 0 (made_sources c) (outputs_of c b ++ dividends_of c b) ∙ ap (λ n. enumerate_from 0 (made_sources c) ++ enumerate_from n (outputs_of c b ++ dividends_of c b)) (zero-add count))
      ∙ filter-append (λ (q : ℕ × Source). is_left c (cleared c) q.1) (enumerate_from 0 (made_sources c)) (enumerate_from count (outputs_of c b ++ dividends_of c b))
      ∙ ap (λ l. numbered c ++ l) (new_kept count))

  pub spends_and_makes : SpendsAndMakes c b
  spends_and_makes =
      let done = transacted_is (time_of (b ∷ c)) b.currency b.transactions count (numbered c) (each_names_none (outputs_made (time_of (b ∷ c)) b.currency) (dividends_of c b) b.transactions before) in
      rest_is
      ∙ ap (λ l. filter (λ q. not (spent q)) (numbered c ++ l)) (enumerate-append count (outputs_of c b) (dividends_of c b))
      ∙ ap (filter (λ q. not (spent q))) (sym (append_assoc (numbered c) (enumerate_from count (outputs_of c b)) (enumerate_from (count + length (outputs_of c b)) (dividends_of c b))))
      ∙ filter-append (λ q. not (spent q)) (numbered c ++ enumerate_from count (outputs_of c b)) (enumerate_from (count + length (outputs_of c b)) (dividends_of c b))
      ∙ ap (λ l. filter (λ q. not (spent q)) (numbered c ++ enumerate_from count (outputs_of c b)) ++ l) (dividends_kept (count + length (outputs_of c b)))
      ∙ ap (λ (state : ℕ × List (ℕ × Source)). state.1 ++ enumerate_from state.0 (dividends_of c b)) (sym done)
