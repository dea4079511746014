-- Ways that lists of sources go: new ones come, and some of those that are at hand go. What transactions spend goes, and what they make
-- comes: as a whole they leave the units at hand as they are.
use Rattle.std.proofs.Common.{◌≡◌, ℕ, ◌+◌, ◌≤◌, Bool, true, false, not, ◌||◌, ◌&&◌, ◌==◌, List, [], ◌∷◌, ◌++◌, map, filter, sum_by, refl, ap, sym, ◌∙◌, subst, true≢false, arith, inl, inr, append_assoc, append-nil, add-zero}
use Rattle.std.specs.Prelude.{⊤}
use Rattle.std.specs.Option.{IsSomeAnd}
use Rattle.std.specs.List.{AllByRecursion, flat_map}
use Rattle.std.proofs.lemmas.List.Sums.{sum_by-cons, sum_by-append}
use Rattle.std.proofs.lemmas.List.Elements.{filter-append, filter_agree}
use Rattle.std.proofs.lemmas.List.Folds.{list_any-append}
use Rattle.std.proofs.lemmas.List.{map-append}
use Rattle.std.proofs.lemmas.Bool.Decides.{Decides-eqb}
use Rattle.dubp_chain.specs.OfCond.{SourceId, Input, Tx}
use Rattle.dubp_chain.specs.Money.{Source, same_source, units_of, named_by, among}
use Rattle.dubp_validity.specs.LocalRules.{input_units}
use Rattle.dubp_validity.specs.MoneyRules.{EachMay, is_spent_by, spent}
use Rattle.dubp_validity.specs.Records.{input_of}
use Rattle.dubp_laws.proofs.OfLists.{and_left, and_right, IsIn, in_left, in_right, in_append, kept_in, none_in, any_in, is_false, filter_on, filter_true, filter_twice}
use Rattle.dubp_laws.proofs.Sources.{same_source_is, same_source_own, SourcesApart, sources-append, sources-filter}
use Rattle.dubp_laws.proofs.Spending.{AreThere, found_any}
use Rattle.dubp_laws.proofs.SourceRows.{apart_first, apart_last}
use Rattle.dubp_moves.proofs.Weights.{apart_both, sum-without}
use Rattle.dubp_moves.proofs.Events.{Event, Comes, Spends, Clears, without, Follows, follows-append}

-- each of these is among those
abbrev pub AreIn : List Source → List Source → Type 0
AreIn xs ys = (x : Source) → IsIn x xs → IsIn x ys

flipped : (a b : SourceId) → same_source a b ≡ false → same_source b a ≡ false
flipped a b none = is_false (same_source b a) (λ same. true≢false (sym (subst (λ k. same_source k b ≡ true) (same_source_is b a same) (same_source_own b)) ∙ none))

-- of two lists that together have no source twice, none of the second is among some of the first
pub not-among : (xs ys gone : List Source) → SourcesApart (xs ++ ys) → AreIn gone xs → (y : Source) → IsIn y ys → among gone y ≡ false
not-among xs ys gone apart within y there =
    none_in (λ (other : Source). same_source y.id other.id) gone (λ x here. flipped x.id y.id (apart_both xs ys apart x y (within x here) there))

-- what is at hand of the sources where these are gone
abbrev pub left : List Source → List Source → List Source
left gone sources = filter (λ s. not (among gone s)) sources

one-more : (a b : Bool) → (not a && not b) ≡ not (a || (b || false))
one-more true b = refl
one-more false true = refl
one-more false false = refl

left-one : (gone sources : List Source) (s : Source) → without s (left gone sources) ≡ left (gone ++ s ∷ []) sources
left-one gone sources s =
    filter_twice (λ x. not (same_source x.id s.id)) (λ x. not (among gone x)) sources
    ∙ filter_agree (λ x. not (among gone x) && not (same_source x.id s.id)) (λ x. not (among (gone ++ s ∷ []) x))
    (λ x. one-more (among gone x) (same_source x.id s.id) ∙ ap not (sym (list_any-append (λ (other : Source). same_source x.id other.id) gone (s ∷ [])))) sources

pub left-none : (sources : List Source) → left [] sources ≡ sources
left-none sources = filter_true sources

-- what comes behind is at hand, where none of it is gone
pub left-more : (xs ys gone : List Source) → ((y : Source) → IsIn y ys → among gone y ≡ false) → left gone xs ++ ys ≡ left gone (xs ++ ys)
left-more xs ys gone none =
    sym (filter-append (λ s. not (among gone s)) xs ys
    ∙ ap (λ l. left gone xs ++ l) (filter_on (λ s. not (among gone s)) (λ s. true) ys (λ s there. ap not (none s there)) ∙ filter_true ys))

module _ (all : List Source) (limit : ℕ) where
  pub to-these : (made hand : List Source) (es : List Event) (made' hand' m h : List Source) → made' ≡ m → hand' ≡ h → Follows all limit made hand es made' hand' → Follows all limit made hand es m h
  to-these made hand es made' hand' m h p q f = subst (λ x. Follows all limit made hand es x h) p (subst (λ y. Follows all limit made hand es made' y) q f)

  -- ---- what comes

  pub comes-follow : (made hand new : List Source) → SourcesApart (made ++ new) → AreIn new all → sum_by units_of (hand ++ new) ≤ limit
      → Follows all limit made hand (map Comes new) (made ++ new) (hand ++ new)
  comes-follow made hand [] apart known fits = (sym (append-nil made), sym (append-nil hand))
  comes-follow made hand (s ∷ new) apart known fits =
      let apart' : SourcesApart ((made ++ s ∷ []) ++ new) = subst SourcesApart (sym (append_assoc made (s ∷ []) new)) apart in
      let fits' : sum_by units_of ((hand ++ s ∷ []) ++ new) ≤ limit = subst (λ l. sum_by units_of l ≤ limit) (sym (append_assoc hand (s ∷ []) new)) fits in (
        apart_first (made ++ s ∷ []) new apart',
        known s (inl refl),
        omega (arith, fits', sum_by-append units_of (hand ++ s ∷ []) new),
        to-these (made ++ s ∷ []) (hand ++ s ∷ []) (map Comes new) ((made ++ s ∷ []) ++ new) ((hand ++ s ∷ []) ++ new) (made ++ s ∷ new) (hand ++ s ∷ new)
            (append_assoc made (s ∷ []) new) (append_assoc hand (s ∷ []) new)
            (comes-follow (made ++ s ∷ []) (hand ++ s ∷ []) new apart' (λ x there. known x (inr there)) fits'),
      )

  -- ---- what goes

  -- an event by which a source goes that is at hand
  abbrev pub IsGoing : (Source → Event) → Type 0
  IsGoing event =
      (made hand : List Source) (s : Source) (es : List Event) (made' hand' : List Source) → IsIn s hand
      → Follows all limit made (without s hand) es made' hand' → Follows all limit made hand (event s ∷ es) made' hand'

  pub spends-going : IsGoing Spends
  spends-going made hand s es made' hand' there f = (there, f)

  pub clears-going : IsGoing Clears
  clears-going made hand s es made' hand' there f = (there, f)

  pub goes-follow : (event : Source → Event) → IsGoing event → (made sources gone ss : List Source) → SourcesApart (gone ++ ss) → AreIn ss sources
      → Follows all limit made (left gone sources) (map event ss) made (left (gone ++ ss) sources)
  goes-follow event going made sources gone [] apart known = (refl, ap (λ l. left l sources) (sym (append-nil gone)))
  goes-follow event going made sources gone (s ∷ ss) apart known =
      let none : among gone s ≡ false = not-among gone (s ∷ ss) gone apart (λ x here. here) s (inl refl) in
      let apart' : SourcesApart ((gone ++ s ∷ []) ++ ss) = subst SourcesApart (sym (append_assoc gone (s ∷ []) ss)) apart in
      let later = goes-follow event going made sources (gone ++ s ∷ []) ss apart' (λ x there. known x (inr there)) in
      going made (left gone sources) s (map event ss) made (left (gone ++ s ∷ ss) sources)
      (kept_in (λ x. not (among gone x)) sources s (known s (inl refl)) (ap not none))
      (subst (λ h. Follows all limit made h (map event ss) made (left (gone ++ s ∷ ss) sources)) (sym (left-one gone sources s))
      (to-these made (left (gone ++ s ∷ []) sources) (map event ss) made (left ((gone ++ s ∷ []) ++ ss) sources) made (left (gone ++ s ∷ ss) sources)
      refl (ap (λ l. left l sources) (append_assoc gone (s ∷ []) ss)) later))

pub goes-sum : (f : Source → ℕ) (sources gone ss : List Source) → SourcesApart sources → SourcesApart (gone ++ ss) → AreIn ss sources
    → sum_by f (left (gone ++ ss) sources) + sum_by f ss ≡ sum_by f (left gone sources)
goes-sum f sources gone [] once apart known = add-zero (sum_by f (left (gone ++ []) sources)) ∙ ap (λ l. sum_by f (left l sources)) (append-nil gone)
goes-sum f sources gone (s ∷ ss) once apart known =
    let none : among gone s ≡ false = not-among gone (s ∷ ss) gone apart (λ x here. here) s (inl refl) in
    let apart' : SourcesApart ((gone ++ s ∷ []) ++ ss) = subst SourcesApart (sym (append_assoc gone (s ∷ []) ss)) apart in
    let later = goes-sum f sources (gone ++ s ∷ []) ss once apart' (λ x there. known x (inr there)) in
    let same = ap (λ l. sum_by f (left l sources)) (append_assoc gone (s ∷ []) ss) in
    let one = sum-without f (left gone sources) s (sources-filter (λ x. not (among gone x)) sources once) (kept_in (λ x. not (among gone x)) sources s (known s (inl refl)) (ap not none)) in
    let fewer = ap (sum_by f) (left-one gone sources s) in
    omega (arith, later, same, one, fewer, sum_by-cons f s ss)

-- ---- what transactions spend

-- of each transaction the sources that its inputs name: they are at hand, or outputs of an earlier one
abbrev pub Spending : (Tx → List Source) → List Source → List (List Source) → List Tx → Type 0
Spending outputs sources [] [] = ⊤
Spending outputs sources (ss ∷ sss) (tx ∷ txs) = (map input_of ss ≡ tx.inputs) × AreIn ss sources × Spending outputs (sources ++ outputs tx) sss txs
Spending outputs sources [] (tx ∷ txs) = ⊥
Spending outputs sources (ss ∷ sss) [] = ⊥

found-inputs : (sources : List Source) (inputs : List Input) → AllByRecursion (λ input. IsSomeAnd (spent sources input) (λ s. ⊤)) inputs
    → (ss : List Source) × (map input_of ss ≡ inputs) × AreIn ss sources
found-inputs sources [] there = ([], refl, λ x here. absurd here)
found-inputs sources (i ∷ inputs) there =
    let later = found-inputs sources inputs there.1 in
    let found = any_in (is_spent_by i) sources (found_any (is_spent_by i) sources there.0) in
    let s = found.0 in
    let name : s.id ≡ i.source = same_source_is _ _ (and_left (named_by i s) _ found.2) in
    let both : (s.amount == i.amount && s.base == i.base) ≡ true = and_right (named_by i s) _ found.2 in
    let amount : s.amount ≡ i.amount = (Decides-eqb s.amount i.amount).0 (and_left (s.amount == i.amount) _ both) in
    let base : s.base ≡ i.base = (Decides-eqb s.base i.base).0 (and_right (s.amount == i.amount) _ both) in
    let is : input_of s ≡ i = λ k. record { amount = amount k; base = base k; source = name k } in (
      s ∷ later.0,
      (λ k. is k ∷ later.1 k),
      λ x here. elim here [ inl e ↦ subst (λ y. IsIn y sources) (sym e) found.1 | inr h ↦ later.2 x h ],
    )

pub found-spending : (outputs : Tx → List Source) (sources : List Source) (txs : List Tx) → EachMay AreThere outputs sources txs
    → (sss : List (List Source)) × Spending outputs sources sss txs
found-spending outputs sources [] there = ([], tt)
found-spending outputs sources (tx ∷ txs) there =
    let here = found-inputs sources tx.inputs there.0 in
    let later = found-spending outputs (sources ++ outputs tx) txs there.1 in
    (here.0 ∷ later.0, (here.1, here.2, later.1))

abbrev pub joined : List (List Source) → List Source
joined sss = flat_map (λ ss. ss) sss

abbrev pub transaction_events : (Tx → List Source) → List (List Source) → List Tx → List Event
transaction_events outputs (ss ∷ sss) (tx ∷ txs) = map Spends ss ++ (map Comes (outputs tx) ++ transaction_events outputs sss txs)
transaction_events outputs [] txs = []
transaction_events outputs (ss ∷ sss) [] = []

pub inputs-joined : (outputs : Tx → List Source) (sources : List Source) (sss : List (List Source)) (txs : List Tx) → Spending outputs sources sss txs
    → map input_of (joined sss) ≡ flat_map (λ tx. tx.inputs) txs
inputs-joined outputs sources [] [] are = refl
inputs-joined outputs sources (ss ∷ sss) (tx ∷ txs) are =
    map-append input_of ss (joined sss) ∙ (λ k. are.0 k ++ inputs-joined outputs (sources ++ outputs tx) sss txs are.2 k)
inputs-joined outputs sources [] (tx ∷ txs) are = absurd are
inputs-joined outputs sources (ss ∷ sss) [] are = absurd are

sum-inputs : (ss : List Source) → sum_by input_units (map input_of ss) ≡ sum_by units_of ss
sum-inputs [] = refl
sum-inputs (s ∷ ss) = omega (arith, sum_by-cons input_units (input_of s) (map input_of ss), sum_by-cons units_of s ss, sum-inputs ss)

module _ (all : List Source) (limit : ℕ) (outputs : Tx → List Source) where
  -- a transaction makes as much as it spends
  abbrev pub MakesWhatItSpends : Tx → Type 0
  MakesWhatItSpends tx = sum_by units_of (outputs tx) ≡ sum_by input_units tx.inputs

  -- what stands before the transactions
  pub record Before (made sources gone more : List Source) (sss : List (List Source)) (txs : List Tx) : Type 0 where
    pub apart : SourcesApart (made ++ (flat_map outputs txs ++ more))
    pub within : AreIn sources made
    pub known : AreIn (flat_map outputs txs) all
    pub once : SourcesApart sources
    pub spending : Spending outputs sources sss txs
    pub gone_once : SourcesApart (gone ++ joined sss)
    pub gone_within : AreIn gone sources
    pub balanced : AllByRecursion MakesWhatItSpends txs
    pub fits : sum_by units_of (left gone sources) ≤ limit

  pub record Behind (made sources gone : List Source) (sss : List (List Source)) (txs : List Tx) : Type 0 where
    pub follows : Follows all limit made (left gone sources) (transaction_events outputs sss txs) (made ++ flat_map outputs txs) (left (gone ++ joined sss) (sources ++ flat_map outputs txs))
    pub units : sum_by units_of (left (gone ++ joined sss) (sources ++ flat_map outputs txs)) ≡ sum_by units_of (left gone sources)

  pub transactions-follow : (made sources gone more : List Source) (sss : List (List Source)) (txs : List Tx)
      → Before made sources gone more sss txs → Behind made sources gone sss txs
  transactions-follow made sources gone more [] [] h =
      let hand : left gone sources ≡ left (gone ++ []) (sources ++ []) = λ k. left (sym (append-nil gone) k) (sym (append-nil sources) k) in record {
        follows = (sym (append-nil made), hand);
        units = ap (sum_by units_of) (sym hand);
      }
  transactions-follow made sources gone more [] (tx ∷ txs) h = absurd h.spending
  transactions-follow made sources gone more (ss ∷ sss) [] h = absurd h.spending
  transactions-follow made sources gone more (ss ∷ sss) (tx ∷ txs) h =
      let outs = outputs tx in
      let later = flat_map outputs txs in
      let gone' = gone ++ ss in
      let gone_apart : SourcesApart (gone' ++ joined sss) = subst SourcesApart (sym (append_assoc gone ss (joined sss))) h.gone_once in
      let first_apart : SourcesApart gone' = apart_first gone' (joined sss) gone_apart in
      let spends = goes-follow all limit Spends (spends-going all limit) made sources gone ss first_apart h.spending.1 in
      let apart' : SourcesApart ((made ++ outs) ++ (later ++ more)) =
      subst SourcesApart (ap (λ l. made ++ l) (append_assoc outs later more) ∙ sym (append_assoc made outs (later ++ more))) h.apart in
      let made_outs : SourcesApart (made ++ outs) = apart_first (made ++ outs) (later ++ more) apart' in
      let paid : sum_by units_of ss ≡ sum_by units_of outs = sym (sum-inputs ss) ∙ ap (sum_by input_units) h.spending.0 ∙ sym h.balanced.0 in
      let same_units : sum_by units_of (left gone' sources ++ outs) ≡ sum_by units_of (left gone sources) =
      omega (arith, sum_by-append units_of (left gone' sources) outs, goes-sum units_of sources gone ss h.once first_apart h.spending.1, paid) in
      let fits' : sum_by units_of (left gone' sources ++ outs) ≤ limit = omega (arith, same_units, h.fits) in
      let comes = comes-follow all limit made (left gone' sources) outs made_outs (λ x there. h.known x (in_left x outs later there)) fits' in
      let within' : AreIn gone' sources = λ x there. elim (in_append x gone ss there) [ inl k ↦ h.gone_within x k | inr k ↦ h.spending.1 x k ] in
      let same : left gone' sources ++ outs ≡ left gone' (sources ++ outs) =
      left-more sources outs gone' (not-among made outs gone' made_outs (λ x there. h.within x (within' x there))) in
      let behind = transactions-follow (made ++ outs) (sources ++ outs) gone' more sss txs (record {
        apart = apart';
        within = λ x there. elim (in_append x sources outs there) [ inl k ↦ in_left x made outs (h.within x k) | inr k ↦ in_right x made outs k ];
        known = λ x there. h.known x (in_right x outs later there);
        once = sources-append sources outs h.once (apart_last made outs made_outs) (λ x y here there. apart_both made outs made_outs x y (h.within x here) there);
        spending = h.spending.2;
        gone_once = gone_apart;
        gone_within = λ x there. in_left x sources outs (within' x there);
        balanced = h.balanced.1;
        fits = subst (λ l. sum_by units_of l ≤ limit) same fits';
      }) in
      let es = transaction_events outputs sss txs in
      let last : left (gone' ++ joined sss) ((sources ++ outs) ++ later) ≡ left (gone ++ (ss ++ joined sss)) (sources ++ (outs ++ later)) =
      λ k. left (append_assoc gone ss (joined sss) k) (append_assoc sources outs later k) in record {
        follows =
            follows-append all limit made (left gone sources) (map Spends ss) (map Comes outs ++ es) made (left gone' sources)
            (made ++ (outs ++ later)) (left (gone ++ (ss ++ joined sss)) (sources ++ (outs ++ later))) spends
            (follows-append all limit made (left gone' sources) (map Comes outs) es (made ++ outs) (left gone' sources ++ outs)
            (made ++ (outs ++ later)) (left (gone ++ (ss ++ joined sss)) (sources ++ (outs ++ later))) comes
            (to-these all limit (made ++ outs) (left gone' sources ++ outs) es ((made ++ outs) ++ later) (left (gone' ++ joined sss) ((sources ++ outs) ++ later))
            (made ++ (outs ++ later)) (left (gone ++ (ss ++ joined sss)) (sources ++ (outs ++ later))) (append_assoc made outs later) last
            (subst (λ l. Follows all limit (made ++ outs) l es ((made ++ outs) ++ later) (left (gone' ++ joined sss) ((sources ++ outs) ++ later))) (sym same) behind.follows)));
        units = ap (sum_by units_of) (sym last) ∙ behind.units ∙ ap (sum_by units_of) (sym same) ∙ same_units;
      }
