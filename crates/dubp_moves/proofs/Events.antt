-- What happens to sources one after another: each comes, or goes while it is at hand. Whoever follows this knows the sources of a condition
-- that were made so far, and so tells which changes are about it; and its running sum is what it has of the sources at hand.
use Rattle.std.proofs.Common.{◌≡◌, ℕ, ◌+◌, ◌-◌, ◌≤◌, Bool, true, false, cond, not, List, [], ◌∷◌, ◌++◌, map, filter, fold, sum_by, refl, ap, sym, ◌∙◌, subst, arith, inl, inr, append_assoc, append-nil, add-zero}
use Rattle.std.proofs.lemmas.List.{map-append}
use Rattle.std.proofs.lemmas.List.Elements.{filter-append}
use Rattle.dubp_verdict.specs.OfAtoms.{Text}
use Rattle.dubp_chain.specs.OfCond.{Input}
use Rattle.dubp_chain.specs.Money.{Source, same_source, units_of}
use Rattle.dubp_validity.specs.LocalRules.{input_units}
use Rattle.dubp_validity.specs.Records.{input_of}
use Rattle.dubp_laws.proofs.OfLists.{IsIn, in_left, in_right, in_append, in_filter}
use Rattle.dubp_laws.proofs.Sources.{SourcesApart, sources-append, sources-filter}
use Rattle.dubp_moves.specs.declared.moves.Kind.{Kind}
use Rattle.dubp_moves.specs.declared.moves.Kind.TheVariants.{Made, Spent, Cleared}
use Rattle.dubp_moves.specs.declared.moves.Move.{Move}
use Rattle.dubp_moves.specs.Moves.{Change, names_with, is_about, balance_behind, move_of, with_balances, last_balance}
use Rattle.dubp_moves.specs.Accounts.{Account, moved, with_made, with_gone}
use Rattle.dubp_moves.specs.Statements.{IsSum, AreSums}
use Rattle.dubp_moves.proofs.Weights.{apart_both, named_is, has_cond, weight, weights-below, sum-last, sum-split, sum-without}

pub data Event : Type 0 where
  Comes : (s : Source) → Event
  Spends : (s : Source) → Event
  Clears : (s : Source) → Event

abbrev pub change : Event → Change
change (Comes s) = record { kind = Made; input = input_of s }
change (Spends s) = record { kind = Spent; input = input_of s }
change (Clears s) = record { kind = Cleared; input = input_of s }

abbrev pub without : Source → List Source → List Source
without s xs = filter (λ x. not (same_source x.id s.id)) xs

-- From what was made and what is at hand, the events lead to what was made and is at hand behind them. What comes is one of all sources and
-- was not made before; what goes is at hand; and what is at hand has at most so many units.
abbrev pub Follows : List Source → ℕ → List Source → List Source → List Event → List Source → List Source → Type 0
Follows all limit made hand [] made' hand' = (made ≡ made') × (hand ≡ hand')
Follows all limit made hand (Comes s ∷ es) made' hand' =
    SourcesApart (made ++ s ∷ []) × IsIn s all × (sum_by units_of (hand ++ s ∷ []) ≤ limit) × Follows all limit (made ++ s ∷ []) (hand ++ s ∷ []) es made' hand'
Follows all limit made hand (Spends s ∷ es) made' hand' = IsIn s hand × Follows all limit made (without s hand) es made' hand'
Follows all limit made hand (Clears s ∷ es) made' hand' = IsIn s hand × Follows all limit made (without s hand) es made' hand'

pub follows-append : (all : List Source) (limit : ℕ) (made hand : List Source) (es fs : List Event) (made' hand' made'' hand'' : List Source)
    → Follows all limit made hand es made' hand' → Follows all limit made' hand' fs made'' hand'' → Follows all limit made hand (es ++ fs) made'' hand''
follows-append all limit made hand [] fs made' hand' made'' hand'' first then =
    subst (λ m. Follows all limit m hand fs made'' hand'') (sym first.0) (subst (λ h. Follows all limit made' h fs made'' hand'') (sym first.1) then)
follows-append all limit made hand (Comes s ∷ es) fs made' hand' made'' hand'' first then =
    (first.0, first.1, first.2, follows-append all limit (made ++ s ∷ []) (hand ++ s ∷ []) es fs made' hand' made'' hand'' first.3 then)
follows-append all limit made hand (Spends s ∷ es) fs made' hand' made'' hand'' first then =
    (first.0, follows-append all limit made (without s hand) es fs made' hand' made'' hand'' first.1 then)
follows-append all limit made hand (Clears s ∷ es) fs made' hand' made'' hand'' first then =
    (first.0, follows-append all limit made (without s hand) es fs made' hand' made'' hand'' first.1 then)

-- ---- what stands along the way

pub record Stands (all made hand : List Source) : Type 0 where
  pub all_apart : SourcesApart all
  pub made_apart : SourcesApart made
  pub hand_apart : SourcesApart hand
  pub at_hand : (x : Source) → IsIn x hand → IsIn x made
  pub known : (x : Source) → IsIn x made → IsIn x all

stands-comes : (all made hand : List Source) (s : Source) → Stands all made hand → SourcesApart (made ++ s ∷ []) → IsIn s all → Stands all (made ++ s ∷ []) (hand ++ s ∷ [])
stands-comes all made hand s st apart there = record {
  all_apart = st.all_apart;
  made_apart = apart;
  hand_apart = sources-append hand (s ∷ []) st.hand_apart refl (λ x y here one. apart_both made (s ∷ []) apart x y (st.at_hand x here) one);
  at_hand = λ x here. elim (in_append x hand (s ∷ []) here) [ inl h ↦ in_left x made (s ∷ []) (st.at_hand x h) | inr h ↦ in_right x made (s ∷ []) h ];
  known = λ x here. elim (in_append x made (s ∷ []) here) [ inl h ↦ st.known x h | inr h ↦ is_one x h ];
}
  where
    is_one : (x : Source) → IsIn x (s ∷ []) → IsIn x all
    is_one x (inl e) = subst (λ y. IsIn y all) (sym e) there
    is_one x (inr none) = absurd none

stands-goes : (all made hand : List Source) (s : Source) → Stands all made hand → Stands all made (without s hand)
stands-goes all made hand s st = record {
  all_apart = st.all_apart;
  made_apart = st.made_apart;
  hand_apart = sources-filter (λ x. not (same_source x.id s.id)) hand st.hand_apart;
  at_hand = λ x here. st.at_hand x (in_filter (λ x. not (same_source x.id s.id)) hand x here).0;
  known = st.known;
}

-- ---- the account along the way

-- numbers on the way: what comes is added, and what goes was there
comes-numbers : (n old whole weight units : ℕ) → n ≡ old → whole ≡ old + weight → weight ≡ units → n + units ≡ whole
comes-numbers n old whole weight units is more one = omega (arith, is, more, one)

goes-numbers : (n old rest weight units behind : ℕ) → n ≡ old → rest + weight ≡ old → weight ≡ units → behind ≡ n - units → (behind ≡ rest) × (behind + units ≡ n)
goes-numbers n old rest weight units behind is whole one taken = (omega (arith, is, whole, one, taken), omega (arith, is, whole, one, taken))

no-less : (n : ℕ) → n ≡ n - 0
no-less n = omega arith

less : (n units behind old limit : ℕ) → behind + units ≡ n → n ≡ old → old ≤ limit → behind ≤ limit
less n units behind old limit back is fits = omega (arith, back, is, fits)

at-most : (n m k : ℕ) → n ≤ m → m ≤ k → n ≤ k
at-most n m k h l = omega (arith, h, l)

module _ (text : Text) (number : ℕ) where
  abbrev pub noted : Account → Event → Account
  noted a (Comes s) = with_made text number a s
  noted a (Spends s) = with_gone Spent number a (input_of s)
  noted a (Clears s) = with_gone Cleared number a (input_of s)

  last-balances : (ms : List Move) (x : Change) (xs : List Change)
      → moved number x ms ++ with_balances number (last_balance 0 (moved number x ms)) xs ≡ ms ++ with_balances number (last_balance 0 ms) (x ∷ xs)
  last-balances ms x xs =
      ap (λ m. moved number x ms ++ with_balances number m xs) (last-of 0 ms)
      ∙ append_assoc ms (move_of number (balance_behind (last_balance 0 ms) x.kind x.input) x ∷ []) (with_balances number (balance_behind (last_balance 0 ms) x.kind x.input) xs)
    where
      last-of : (k : ℕ) (ns : List Move) → last_balance k (ns ++ move_of number (balance_behind (last_balance 0 ms) x.kind x.input) x ∷ []) ≡ balance_behind (last_balance 0 ms) x.kind x.input
      last-of k [] = refl
      last-of k (m ∷ ns) = last-of m.balance ns

  names-last : (xs : List Source) (s : Source) → names_with text (xs ++ s ∷ []) ≡ names_with text xs ++ cond (has_cond text s) (s.id ∷ []) []
  names-last xs s =
      ap (λ l. map (λ (x : Source). x.id) l) (filter-append (has_cond text) xs (s ∷ []))
      ∙ map-append (λ (x : Source). x.id) (filter (has_cond text) xs) (filter (has_cond text) (s ∷ []))
      ∙ (elim (has_cond text s) as (λ r. names_with text xs ++ map (λ (x : Source). x.id) (cond r (s ∷ []) []) ≡ names_with text xs ++ cond r (s.id ∷ []) []) [ true ↦ refl | false ↦ refl ])

  -- the changes that are about the condition, of which all sources are these
  abbrev pub about : List Source → List Event → List Change
  about all es = filter (is_about (names_with text all)) (map change es)

  -- one that goes is noted exactly where it has the condition; `later` is what holds behind it
  goes-is : (kind : Kind) (all made : List Source) (s : Source) (rest : List Change) (es : List Event) (made' : List Source) (a : Account)
      → SourcesApart all → SourcesApart made → IsIn s all → IsIn s made → a.names ≡ names_with text made
      → ((b : Account) → b.names ≡ names_with text made
      → fold noted b es ≡ record { names = names_with text made'; moves = b.moves ++ with_balances number (last_balance 0 b.moves) rest })
      → fold noted (with_gone kind number a (input_of s)) es
      ≡ record { names = names_with text made'; moves = a.moves ++ with_balances number (last_balance 0 a.moves) (cond (is_about (names_with text all) (record { kind = kind; input = input_of s })) (record { kind = kind; input = input_of s } ∷ rest) rest) }
  goes-is kind all made s rest es made' a all_apart made_apart there here named later =
      let x : Change = record { kind = kind; input = input_of s } in
      let told : is_about (names_with text all) x ≡ has_cond text s = named_is text all all_apart s there in
      let seen : is_about a.names x ≡ has_cond text s = ap (λ names. is_about names x) named ∙ named_is text made made_apart s here in
      let after : Account = record a { moves = moved number x a.moves } in
      ap (λ b. fold noted (cond b after a) es) seen
      ∙ (elim (has_cond text s) as (λ r. fold noted (cond r after a) es
      ≡ record { names = names_with text made'; moves = a.moves ++ with_balances number (last_balance 0 a.moves) (cond r (x ∷ rest) rest) }) [
        | true ↦ later after named ∙ (λ i. record { names = names_with text made'; moves = last-balances a.moves x rest i })
        | false ↦ later a named
      ])
      ∙ (λ i. record { names = names_with text made'; moves = a.moves ++ with_balances number (last_balance 0 a.moves) (cond (sym told i) (x ∷ rest) rest) })

  -- The account behind: its names are those of what was made, and its moves are joined by those about the condition.
  pub account-is : (all : List Source) (limit : ℕ) (made hand : List Source) (es : List Event) (made' hand' : List Source) (a : Account)
      → Stands all made hand → Follows all limit made hand es made' hand' → a.names ≡ names_with text made
      → fold noted a es ≡ record { names = names_with text made'; moves = a.moves ++ with_balances number (last_balance 0 a.moves) (about all es) }
  account-is all limit made hand [] made' hand' a st f named =
      λ i. record { names = (named ∙ ap (names_with text) f.0) i; moves = sym (append-nil a.moves) i }
  account-is all limit made hand (Comes s ∷ es) made' hand' a st f named =
      let x = change (Comes s) in
      let rest = about all es in
      let told : is_about (names_with text all) x ≡ has_cond text s = named_is text all st.all_apart s f.1 in
      let after : Account = record { names = a.names ++ s.id ∷ []; moves = moved number x a.moves } in
      let st' = stands-comes all made hand s st f.0 f.1 in
      let joined = λ (r : Bool) (e : has_cond text s ≡ r). names-last made s ∙ ap (λ b. names_with text made ++ cond b (s.id ∷ []) []) e in
      (elim (has_cond text s) as (λ r. has_cond text s ≡ r → fold noted (cond r after a) es
      ≡ record { names = names_with text made'; moves = a.moves ++ with_balances number (last_balance 0 a.moves) (cond r (x ∷ rest) rest) }) [
        | true ↦ λ has.
            account-is all limit (made ++ s ∷ []) (hand ++ s ∷ []) es made' hand' after st' f.3 (ap (λ l. l ++ s.id ∷ []) named ∙ sym (joined true has))
            ∙ (λ i. record { names = names_with text made'; moves = last-balances a.moves x rest i })
        | false ↦ λ lacks.
            account-is all limit (made ++ s ∷ []) (hand ++ s ∷ []) es made' hand' a st' f.3 (named ∙ sym (append-nil (names_with text made)) ∙ sym (joined false lacks))
      ] refl)
      ∙ (λ i. record { names = names_with text made'; moves = a.moves ++ with_balances number (last_balance 0 a.moves) (cond (sym told i) (x ∷ rest) rest) })
  account-is all limit made hand (Spends s ∷ es) made' hand' a st f named =
      goes-is Spent all made s (about all es) es made' a st.all_apart st.made_apart (st.known s (st.at_hand s f.0)) (st.at_hand s f.0) named
      (λ b stays. account-is all limit made (without s hand) es made' hand' b (stands-goes all made hand s st) f.1 stays)
  account-is all limit made hand (Clears s ∷ es) made' hand' a st f named =
      goes-is Cleared all made s (about all es) es made' a st.all_apart st.made_apart (st.known s (st.at_hand s f.0)) (st.at_hand s f.0) named
      (λ b stays. account-is all limit made (without s hand) es made' hand' b (stands-goes all made hand s st) f.1 stays)

  -- The balances of these changes from n on are sums within the limit, and the last is this.
  abbrev pub IsWay : ℕ → ℕ → List Change → ℕ → Type 0
  IsWay limit n xs last = AreSums limit n (with_balances number n xs) × (last_balance n (with_balances number n xs) ≡ last)

  -- what is left is at most what was there
  less-at-hand : (s : Source) (hand : List Source) → sum_by units_of (without s hand) ≤ sum_by units_of hand
  less-at-hand s hand = omega (arith, sum-split units_of (λ x. same_source x.id s.id) hand)

  -- what is taken away was there, whatever the kind of the change
  goes-sums : (kind : Kind) (limit : ℕ) (all hand : List Source) (s : Source) (rest : List Change) (n last : ℕ)
      → ((m : ℕ) (input : Input) → balance_behind m kind input ≡ m - input_units input)
      → ((before taken behind : ℕ) → behind + taken ≡ before → IsSum kind before taken behind)
      → SourcesApart all → SourcesApart hand → IsIn s all → IsIn s hand → n ≡ sum_by (weight text) hand → sum_by (weight text) hand ≤ limit
      → ((m : ℕ) → m ≡ sum_by (weight text) (without s hand) → IsWay limit m rest last)
      → IsWay limit n (cond (is_about (names_with text all) (record { kind = kind; input = input_of s })) (record { kind = kind; input = input_of s } ∷ rest) rest) last
  goes-sums kind limit all hand s rest n last takes sum-is all_apart hand_apart there here is fits later =
      let x : Change = record { kind = kind; input = input_of s } in
      let told : is_about (names_with text all) x ≡ has_cond text s = named_is text all all_apart s there in
      let whole = sum-without (weight text) hand s hand_apart here in
      subst (λ b. IsWay limit n (cond b (x ∷ rest) rest) last) (sym told)
      (elim (has_cond text s) as (λ r. has_cond text s ≡ r → IsWay limit n (cond r (x ∷ rest) rest) last) [
        | true ↦ λ has.
            let one : weight text s ≡ units_of s = ap (λ b. cond b (units_of s) 0) has in
            let taken : balance_behind n kind (input_of s) ≡ n - units_of s = takes n (input_of s) in
            let both = goes-numbers n (sum_by (weight text) hand) (sum_by (weight text) (without s hand)) (weight text s) (units_of s) (balance_behind n kind (input_of s)) is whole one taken in
            let rest-is = later (balance_behind n kind (input_of s)) both.0 in
            ((sum-is n (units_of s) (balance_behind n kind (input_of s)) both.1, less n (units_of s) (balance_behind n kind (input_of s)) (sum_by (weight text) hand) limit both.1 is fits, rest-is.0), rest-is.1)
        | false ↦ λ lacks.
            let one : weight text s ≡ 0 = ap (λ b. cond b (units_of s) 0) lacks in
            later n (goes-numbers n (sum_by (weight text) hand) (sum_by (weight text) (without s hand)) (weight text s) 0 n is whole one (no-less n)).0
      ] refl)

  -- What it has of the sources at hand is its running sum.
  pub sums-are : (all : List Source) (limit : ℕ) (made hand : List Source) (es : List Event) (made' hand' : List Source) (n : ℕ)
      → Stands all made hand → Follows all limit made hand es made' hand' → n ≡ sum_by (weight text) hand → sum_by units_of hand ≤ limit
      → IsWay limit n (about all es) (sum_by (weight text) hand')
  sums-are all limit made hand [] made' hand' n st f is fits = (tt, is ∙ ap (sum_by (weight text)) f.1)
  sums-are all limit made hand (Comes s ∷ es) made' hand' n st f is fits =
      let x = change (Comes s) in
      let rest = about all es in
      let told : is_about (names_with text all) x ≡ has_cond text s = named_is text all st.all_apart s f.1 in
      let st' = stands-comes all made hand s st f.0 f.1 in
      let whole = sum-last (weight text) hand s in
      let below = weights-below text (hand ++ s ∷ []) in
      subst (λ b. IsWay limit n (cond b (x ∷ rest) rest) (sum_by (weight text) hand')) (sym told)
      (elim (has_cond text s) as (λ r. has_cond text s ≡ r → IsWay limit n (cond r (x ∷ rest) rest) (sum_by (weight text) hand')) [
        | true ↦ λ has.
            let one : weight text s ≡ units_of s = ap (λ b. cond b (units_of s) 0) has in
            let now : n + units_of s ≡ sum_by (weight text) (hand ++ s ∷ []) = comes-numbers n (sum_by (weight text) hand) (sum_by (weight text) (hand ++ s ∷ [])) (weight text s) (units_of s) is whole one in
            let within : n + units_of s ≤ limit = subst (λ m. m ≤ limit) (sym now) (at-most (sum_by (weight text) (hand ++ s ∷ [])) (sum_by units_of (hand ++ s ∷ [])) limit below f.2) in
            let later = sums-are all limit (made ++ s ∷ []) (hand ++ s ∷ []) es made' hand' (n + units_of s) st' f.3 now f.2 in
            ((refl, within, later.0), later.1)
        | false ↦ λ lacks.
            let one : weight text s ≡ 0 = ap (λ b. cond b (units_of s) 0) lacks in
            let now : n ≡ sum_by (weight text) (hand ++ s ∷ []) = sym (add-zero n) ∙ comes-numbers n (sum_by (weight text) hand) (sum_by (weight text) (hand ++ s ∷ [])) (weight text s) 0 is whole one in
            sums-are all limit (made ++ s ∷ []) (hand ++ s ∷ []) es made' hand' n st' f.3 now f.2
      ] refl)
  sums-are all limit made hand (Spends s ∷ es) made' hand' n st f is fits =
      goes-sums Spent limit all hand s (about all es) n (sum_by (weight text) hand') (λ m input. refl) (λ before taken behind e. e)
      st.all_apart st.hand_apart (st.known s (st.at_hand s f.0)) f.0 is (at-most (sum_by (weight text) hand) (sum_by units_of hand) limit (weights-below text hand) fits)
      (λ m now. sums-are all limit made (without s hand) es made' hand' m (stands-goes all made hand s st) f.1 now (at-most (sum_by units_of (without s hand)) (sum_by units_of hand) limit (less-at-hand s hand) fits))
  sums-are all limit made hand (Clears s ∷ es) made' hand' n st f is fits =
      goes-sums Cleared limit all hand s (about all es) n (sum_by (weight text) hand') (λ m input. refl) (λ before taken behind e. e)
      st.all_apart st.hand_apart (st.known s (st.at_hand s f.0)) f.0 is (at-most (sum_by (weight text) hand) (sum_by units_of hand) limit (weights-below text hand) fits)
      (λ m now. sums-are all limit made (without s hand) es made' hand' m (stands-goes all made hand s st) f.1 now (at-most (sum_by units_of (without s hand)) (sum_by units_of hand) limit (less-at-hand s hand) fits))
