-- The rows of the account of a condition, and the sources of that condition.
use Rattle.std.proofs.Common.{◌≡◌, ℕ, ◌+◌, Bool, true, false, cond, ◌==◌, List, [], ◌∷◌, ◌++◌, Some, None, map, filter, sum_by, refl, ap, sym, ◌∙◌, subst, true≢false}
use Rattle.std.specs.Prelude.{unwrap_or}
use Rattle.std.specs.List.{list_any, position_or_len}
use Rattle.std.proofs.lemmas.Bool.Decides.{Decides-eqb}
use Rattle.std.proofs.lemmas.List.Quantifiers.{position-Some}
use Rattle.std.proofs.lemmas.List.Sums.{sum_by-cons}
use Rattle.std.proofs.lemmas.Option.{none-some}
use Rattle.dubp_atoms.specs.Same.{Text, same_text}
use Rattle.dubp_cond.specs.Conditions.{cond_text}
use Rattle.dubp_chain.specs.Chains.{Chain}
use Rattle.dubp_chain.specs.Money.{Source, units_of, is_left, made_sources, cleared, unspent, balance, sources_of}
use Rattle.dubp_lists.proofs.Elements.{IsIn, is_false, in_all, in_map, in_filter, filter_on}
use Rattle.dubp_lists.proofs.InOrder.{same_text_is, same_text_own}
use Rattle.dubp_moving.specs.States.{states}
use Rattle.dubp_sindex.specs.Numbering.{number_of}
use Rattle.dubp_sindex.specs.Rows.{units_of_entry, is_of, of_account, units_in}
use Rattle.dubp_sindex.specs.States.{rows_of}
use Rattle.dubp_sindex.proofs.Texts.{number_is}
use Rattle.dubp_money.specs.OfMoneySteps.{numbered}
use Rattle.dubp_money.specs.OfMoneySteps.{account_in, text_of, entry_of, entries_of, sources_left, HasTexts}
use Rattle.dubp_money.proofs.OfMoneySteps.{without_numbers}

-- ---- numbers of texts

has_number : (texts : List Text) (t : Text) → list_any (same_text t) texts ≡ true → number_of texts t ≡ Some (position_or_len (same_text t) texts)
has_number texts t there =
    subst (λ b. number_of (cond b texts (texts ++ t ∷ [])) t ≡ Some (position_or_len (same_text t) texts)) there (number_is texts t (position_or_len (same_text t) texts) refl (same_text_own t))

-- two texts have one number only where they are one
numbers_tell : (texts : List Text) (t u : Text) (n m : ℕ) → number_of texts t ≡ Some n → number_of texts u ≡ Some m → (n == m) ≡ same_text t u
numbers_tell texts t u n m is is' =
    elim (same_text t u) as (λ r. same_text t u ≡ r → (n == m) ≡ r) [
      | true ↦ λ same. (Decides-eqb n m).1 (ap (λ o. unwrap_or o 0) (sym is ∙ ap (number_of texts) (same_text_is t u same) ∙ is'))
      | false ↦ λ other. is_false (n == m) (λ one.
          let at = (position-Some (same_text t) texts n t is).1 in
          let at' = (position-Some (same_text u) texts n t (is' ∙ ap Some (sym ((Decides-eqb n m).0 one)))).1 in
          let both : t ≡ u = same_text_is t _ at ∙ sym (same_text_is u _ at') in
          true≢false (sym (subst (λ w. same_text t w ≡ true) both (same_text_own t)) ∙ other))
    ] refl

account_tells : (texts : List Text) (t u : Text) (n : ℕ) → number_of texts t ≡ Some n → list_any (same_text u) texts ≡ true → (n == account_in texts u) ≡ same_text t u
account_tells texts t u n is there =
    let number = has_number texts u there in
    ap (λ m. n == m) (ap (λ o. unwrap_or o 0) number) ∙ numbers_tell texts t u n (position_or_len (same_text u) texts) is number

none_is_other : (texts : List Text) (t u : Text) → number_of texts t ≡ None → list_any (same_text u) texts ≡ true → same_text t u ≡ false
none_is_other texts t u none there =
    is_false (same_text t u) (λ same.
    let both : u ≡ t = sym (same_text_is t u same) in
    none-some (position_or_len (same_text t) texts) (sym none ∙ has_number texts t (subst (λ w. list_any (same_text w) texts ≡ true) both there)))

-- ---- rows and sources

filter-map : {X Y : Type 0} (p : Y → Bool) (f : X → Y) (xs : List X) → filter p (map f xs) ≡ map f (filter (λ x. p (f x)) xs)
filter-map p f [] = refl
filter-map p f (x ∷ xs) =
    let later = filter-map p f xs in
    elim (p (f x)) as (λ r. cond r (f x ∷ filter p (map f xs)) (filter p (map f xs)) ≡ map f (cond r (x ∷ filter (λ x. p (f x)) xs) (filter (λ x. p (f x)) xs))) [ true ↦ ap (λ l. f x ∷ l) later | false ↦ later ]

sum_rows : (account : Text → ℕ) (qs : List (ℕ × Source)) → sum_by units_of_entry (entries_of account qs) ≡ sum_by units_of (map (λ (q : ℕ × Source). q.1) qs)
sum_rows account [] = refl
sum_rows account (q ∷ qs) = sum_by-cons units_of_entry (entry_of account q) (entries_of account qs) ∙ ap (λ n. units_of q.1 + n) (sum_rows account qs) ∙ sym (sum_by-cons units_of q.1 (map (λ (q : ℕ × Source). q.1) qs))

filter_none : {X : Type 0} (p : X → Bool) (xs : List X) → ((x : X) → IsIn x xs → p x ≡ false) → filter p xs ≡ []
filter_none {X = X} p xs none = filter_on p (λ _. false) xs none ∙ nothing xs
  where
    nothing : (xs : List X) → filter (λ _. false) xs ≡ []
    nothing [] = refl
    nothing (x ∷ xs) = nothing xs

numbered_unspent : (c : Chain) → map (λ (q : ℕ × Source). q.1) (numbered c) ≡ unspent c
numbered_unspent c = without_numbers (is_left c (cleared c)) 0 (made_sources c)

pub rows_left : (texts : List Text) (c : Chain) → rows_of (states (sources_left texts) c) ≡ sources_left texts c
rows_left texts [] = refl
rows_left texts (b ∷ c) = refl

module _ (texts : List Text) (c : Chain) (has : HasTexts texts (made_sources c)) where
  unspent_text : (s : Source) → IsIn s (unspent c) → list_any (same_text (cond_text s.cond)) texts ≡ true
  unspent_text s there = in_all (λ s. list_any (same_text (cond_text s.cond)) texts ≡ true) (made_sources c) has s (in_filter (is_left c (cleared c)) (made_sources c) s there).0

  numbered_text : (q : ℕ × Source) → IsIn q (numbered c) → list_any (same_text (text_of q)) texts ≡ true
  numbered_text q there = unspent_text q.1 (subst (IsIn q.1) (numbered_unspent c) (in_map (λ (q : ℕ × Source). q.1) (numbered c) q there))

  -- the sources of a condition, with their places
  abbrev pub numbered_of : Text → List (ℕ × Source)
  numbered_of t = filter (λ q. same_text t (text_of q)) (numbered c)

  pub numbered_sources : (t : Text) → map (λ (q : ℕ × Source). q.1) (numbered_of t) ≡ sources_of c t
  numbered_sources t =
      sym (filter-map (λ (s : Source). same_text t (cond_text s.cond)) (λ (q : ℕ × Source). q.1) (numbered c))
      ∙ ap (filter (λ (s : Source). same_text t (cond_text s.cond))) (numbered_unspent c)

  pub account_rows : (t : Text) (n : ℕ) → number_of texts t ≡ Some n → of_account n (sources_left texts c) ≡ entries_of (account_in texts) (numbered_of t)
  account_rows t n is =
      filter-map (is_of n) (entry_of (account_in texts)) (numbered c)
      ∙ ap (map (entry_of (account_in texts))) (filter_on (λ q. n == account_in texts (text_of q)) (λ q. same_text t (text_of q)) (numbered c) (λ q in_q. account_tells texts t (text_of q) n is (numbered_text q in_q)))

  -- the units of the account are those of the condition
  pub units_found : (t : Text) (n : ℕ) → number_of texts t ≡ Some n → units_in n (rows_of (states (sources_left texts) c)) ≡ balance c t
  units_found t n is =
      ap (units_in n) (rows_left texts c)
      ∙ ap (sum_by units_of_entry) (account_rows t n is)
      ∙ sum_rows (account_in texts) (numbered_of t)
      ∙ ap (sum_by units_of) (numbered_sources t)

  -- a text without a number has no source
  pub sources_none : (t : Text) → number_of texts t ≡ None → sources_of c t ≡ []
  sources_none t none = filter_none (λ s. same_text t (cond_text s.cond)) (unspent c) (λ s there. none_is_other texts t (cond_text s.cond) none (unspent_text s there))

  pub units_none : (t : Text) → number_of texts t ≡ None → 0 ≡ balance c t
  units_none t none = sym (ap (sum_by units_of) (sources_none t none))
