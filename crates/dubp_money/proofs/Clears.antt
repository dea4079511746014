-- Clearing account by account: what was taken so far, and what is left.
use Rattle.std.proofs.Common.{◌≡◌, ℕ, ◌+◌, ◌<◌, ◌≤◌, Bool, true, false, not, ◌||◌, ◌&&◌, ◌==◌, List, [], ◌∷◌, ◌++◌, filter, length, sum_by, nat_lt, refl, ap, sym, ◌∙◌, subst, true≢false, inl, inr, Option, Some, None, arith, take, get_or, append_assoc, append-nil}
use Rattle.std.proofs.lemmas.List.{take_more, take_all}
use Rattle.std.specs.Prelude.{IfSome, IfNone}
use Rattle.std.specs.List.{list_any}
use Rattle.std.specs.List.Sorted.{IsPermutation, IsNonDecreasingBy}
use Rattle.std.proofs.lemmas.List.Elements.{filter_agree}
use Rattle.std.proofs.lemmas.List.Folds.{list_any-append}
use Rattle.std.proofs.lemmas.List.Sorted.{IsPermutation-refl, IsPermutation-sym, IsPermutation-trans, IsPermutation-append_left}
use Rattle.std.proofs.lemmas.Bool.{lt-ltb, ltb-true}
use Rattle.dubp_sindex.specs.Rows.{Entry, units_of_entry, is_of, is_named, of_account, units_in, without, Rises, AreRows, IsAtMost, balance_of_row, IsLeastBalance}
use Rattle.dubp_sindex.proofs.Elements.{is_false, IsIn, in_all, all_more, in_any, any_in, not_true, in_filter, kept_in, filter_on, filter_true, filter_twice}
use Rattle.dubp_sindex.proofs.Sources.{same_source_own, OnceEach, once_each, one_of_name}
use Rattle.dubp_money_steps.specs.Clearing.{has_little, HasEnough}
use Rattle.dubp_money_steps.proofs.ByBalance.{filter_whole}
use Rattle.dubp_money_steps.proofs.Enough.{same_account, kept_account}
use Rattle.dubp_money.specs.Writing.{IsCleared}
use Rattle.dubp_money.proofs.Lists.{both_kinds, Climbs, sorted_is, climbs-filter}

-- ---- rows of which some are named

-- an entry of the list has the name
abbrev pub named : List Entry → Entry → Bool
named taken e = list_any (λ (t : Entry). is_named t.0 e) taken

-- of rows that stand once each, those that pass a test name those that pass it
named_passed : (p : Entry → Bool) (rows : List Entry) → OnceEach rows → (e : Entry) → IsIn e rows → named (filter p rows) e ≡ p e
named_passed p rows once e there =
    elim (p e) as (λ r. p e ≡ r → named (filter p rows) e ≡ r) [
      | true ↦ λ passes. in_any (λ (t : Entry). is_named t.0 e) (filter p rows) e (kept_in p rows e there passes) (same_source_own e.0)
      | false ↦ λ fails. is_false (named (filter p rows) e) (λ found.
          let h = any_in (λ (t : Entry). is_named t.0 e) (filter p rows) found in
          let k = in_filter p rows h.0 h.1 in
          true≢false (sym k.1 ∙ ap p (one_of_name rows once h.0 e k.0 there h.2) ∙ fails))
    ] refl

-- ---- one account

-- what is left when some of the rows are spent
abbrev pub spent_from : List Entry → List Entry → List Entry
spent_from rows taken = filter (λ e. not (named taken e)) rows

pub spent_none : (rows : List Entry) → spent_from rows [] ≡ rows
spent_none = filter_true

pub spent_one_more : (rows taken : List Entry) (e : Entry) → without e.0 (spent_from rows taken) ≡ spent_from rows (taken ++ e ∷ [])
spent_one_more rows taken e =
    filter_twice (λ x. not (is_named e.0 x)) (λ x. not (named taken x)) rows
    ∙ filter_agree (λ x. not (named taken x) && not (is_named e.0 x)) (λ x. not (named (taken ++ e ∷ []) x))
    (λ x. either (named taken x) (is_named e.0 x) ∙ ap not (sym (list_any-append (λ (t : Entry). is_named t.0 x) taken (e ∷ [])))) rows
  where
    either : (a b : Bool) → (not a && not b) ≡ not (a || (b || false))
    either true b = refl
    either false true = refl
    either false false = refl

pub spent_account : (account : ℕ) (rows : List Entry) → AreRows rows → spent_from rows (of_account account rows) ≡ filter (λ e. not (is_of account e)) rows
spent_account account rows order =
    filter_on (λ e. not (named (of_account account rows) e)) (λ e. not (is_of account e)) rows
    (λ e there. ap not (named_passed (is_of account) rows (once_each rows order) e there))

-- ---- account by account

pub cleared_none : (Has : List Entry → Type 0) (limit : ℕ) (rows : List Entry) → Has rows → IsCleared Has limit rows []
cleared_none Has limit rows are = record {
  gone = λ account. false;
  left = subst Has (sym (filter_true rows)) are;
  taken = subst (λ l. IsPermutation [] l) (sym (none rows)) (IsPermutation-refl []);
  little = λ account e. absurd (true≢false (sym e));
}
  where
    none : (xs : List Entry) → filter (λ e. false) xs ≡ []
    none [] = refl
    none (x ∷ xs) = none xs

-- ---- turns of the loop over one account

pub spent_next : (Has : List Entry → Type 0) (rows items : List Entry) (i : ℕ) (e : Entry) → i < length items → e ≡ get_or items i e
    → Has (without e.0 (spent_from rows (take i items))) → Has (spent_from rows (take (i + 1) items))
spent_next Has rows items i e within is are =
    subst (λ l. Has (spent_from rows l)) (ap (λ x. take i items ++ x ∷ []) is ∙ sym (take_more items i e within))
    (subst Has (spent_one_more rows (take i items) e) are)

pub gathered_next : (old items now new : List Entry) (i : ℕ) (e : Entry) → i < length items → e ≡ get_or items i e
    → now ≡ old ++ take i items → new ≡ now ++ e ∷ [] → new ≡ old ++ take (i + 1) items
gathered_next old items now new i e within is was put =
    put ∙ ap (λ l. l ++ e ∷ []) was ∙ append_assoc old (take i items) (e ∷ []) ∙ ap (λ l. old ++ l) (ap (λ x. take i items ++ x ∷ []) is ∙ sym (take_more items i e within))

pub spent_all : (Has : List Entry → Type 0) (account : ℕ) (rows items : List Entry) (i : ℕ) → AreRows rows → items ≡ of_account account rows → length items ≤ i
    → Has (spent_from rows (take i items)) → Has (filter (λ e. not (is_of account e)) rows)
spent_all Has account rows items i order are past h =
    subst Has (ap (spent_from rows) (take_all i items past ∙ are) ∙ spent_account account rows order) h

module _ (limit : ℕ) (rows : List Entry) (gone : ℕ → Bool) (account : ℕ) where
  abbrev left : List Entry
  left = filter (λ e. not (gone e.1.account)) rows

  abbrev gone_now : ℕ → Bool
  gone_now a = gone a || account == a

  left_now : filter (λ e. not (is_of account e)) left ≡ filter (λ e. not (gone_now e.1.account)) rows
  left_now =
      filter_twice (λ e. not (is_of account e)) (λ e. not (gone e.1.account)) rows
      ∙ filter_agree (λ e. not (gone e.1.account) && not (is_of account e)) (λ e. not (gone_now e.1.account)) (λ e. neither (gone e.1.account) (is_of account e)) rows
    where
      neither : (a b : Bool) → (not a && not b) ≡ not (a || b)
      neither true b = refl
      neither false b = refl

  taken_now : (so_far : List Entry) → gone account ≡ false → IsPermutation so_far (filter (λ e. gone e.1.account) rows)
      → IsPermutation (so_far ++ of_account account left) (filter (λ e. gone_now e.1.account) rows)
  taken_now so_far here same =
      subst (λ l. IsPermutation (so_far ++ l) (filter (λ e. gone_now e.1.account) rows)) (sym (kept_account gone account rows here))
      (IsPermutation-trans (so_far ++ of_account account rows) (filter (λ e. gone e.1.account) rows ++ of_account account rows) (filter (λ e. gone_now e.1.account) rows)
      (IsPermutation-append_left (of_account account rows) so_far (filter (λ e. gone e.1.account) rows) same)
      (both_kinds (λ (e : Entry). gone e.1.account) (is_of account)
      (λ e is. is_false (is_of account e) (λ own. true≢false (sym is ∙ ap gone (sym (same_account account e.1.account own)) ∙ here))) rows))

  little_now : gone account ≡ false → units_in account left < limit → ((a : ℕ) → gone a ≡ true → nat_lt (units_in a rows) limit ≡ true)
      → (a : ℕ) → gone_now a ≡ true → nat_lt (units_in a rows) limit ≡ true
  little_now here below little a is =
      elim (gone a) as (λ r. gone a ≡ r → (r || account == a) ≡ true → nat_lt (units_in a rows) limit ≡ true) [
        | true ↦ λ before _. little a before
        | false ↦ λ _ now.
            subst (λ n. nat_lt (units_in n rows) limit ≡ true) (same_account account a now)
            (lt-ltb (units_in account rows) limit (subst (λ n. n < limit) (ap (sum_by units_of_entry) (kept_account gone account rows here)) below))
      ] refl is

  -- an account that is gone has no row left
  none_left : gone account ≡ true → of_account account left ≡ []
  none_left before = filter_whole (is_of account) (λ e. not (gone e.1.account)) false (λ e is. ap not (ap gone (sym (same_account account e.1.account is)) ∙ before)) rows

  all_left : gone account ≡ true → filter (λ e. not (is_of account e)) left ≡ left
  all_left before =
      filter_on (λ e. not (is_of account e)) (λ e. true) left
      (λ e there. ap not (is_false (is_of account e) (λ is.
      true≢false (sym before ∙ ap gone (same_account account e.1.account is) ∙ not_true (gone e.1.account) (in_filter (λ x. not (gone x.1.account)) rows e there).1))))
      ∙ filter_true left

cleared_more : (Has Has' : List Entry → Type 0) (limit : ℕ) (rows so_far now : List Entry) (account : ℕ) → (is : IsCleared Has limit rows so_far)
    → is.gone account ≡ false → units_in account (filter (λ e. not (is.gone e.1.account)) rows) < limit
    → Has' (filter (λ e. not (is_of account e)) (filter (λ e. not (is.gone e.1.account)) rows))
    → now ≡ so_far ++ of_account account (filter (λ e. not (is.gone e.1.account)) rows)
    → IsCleared Has' limit rows now
cleared_more Has Has' limit rows so_far now account is here below left put = record {
  gone = gone_now limit rows is.gone account;
  left = subst Has' (left_now limit rows is.gone account) left;
  taken = subst (λ l. IsPermutation l (filter (λ e. gone_now limit rows is.gone account e.1.account) rows)) (sym put) (taken_now limit rows is.gone account so_far here is.taken);
  little = little_now limit rows is.gone account here below is.little;
}

-- ---- the end: none that is left has too little

of_enough : (limit : ℕ) (rows : List Entry) → HasEnough limit rows → (e : Entry) → IsIn e rows → limit ≤ units_in e.1.account rows
of_enough limit rows enough = in_all (λ (x : Entry). limit ≤ units_in x.1.account rows) rows enough.each

module _ (Has : List Entry → Type 0) (limit : ℕ) (rows so_far : List Entry) (is : IsCleared Has limit rows so_far)
    (enough : HasEnough limit (filter (λ e. not (is.gone e.1.account)) rows)) where
  -- so those are gone that had too little
  gone_is : (e : Entry) → IsIn e rows → is.gone e.1.account ≡ has_little limit rows e
  gone_is e there =
      elim (is.gone e.1.account) as (λ r. is.gone e.1.account ≡ r → r ≡ has_little limit rows e) [
        | true ↦ λ before. sym (is.little e.1.account before)
        | false ↦ λ stays.
            let h = of_enough limit (filter (λ x. not (is.gone x.1.account)) rows) enough e (kept_in (λ x. not (is.gone x.1.account)) rows e there (ap not stays)) in
            sym (is_false (has_little limit rows e) (λ little. omega (arith, h, ltb-true (units_in e.1.account rows) limit little, ap (sum_by units_of_entry) (kept_account is.gone e.1.account rows stays))))
      ] refl

  pub left_at_end : Has (filter (λ e. not (has_little limit rows e)) rows)
  left_at_end = subst Has (filter_on (λ e. not (is.gone e.1.account)) (λ e. not (has_little limit rows e)) rows (λ e there. ap not (gone_is e there))) is.left

  pub taken_at_end : AreRows rows → (sorted : List Entry) → IsPermutation so_far sorted → IsNonDecreasingBy (λ (e : Entry). e.1.order) sorted → sorted ≡ filter (has_little limit rows) rows
  taken_at_end order sorted same up =
      sorted_is (λ (e : Entry). e.1.order) sorted (filter (has_little limit rows) rows)
      (subst (λ l. IsPermutation sorted l) (filter_on (λ e. is.gone e.1.account) (has_little limit rows) rows gone_is)
      (IsPermutation-trans sorted so_far (filter (λ e. is.gone e.1.account) rows) (IsPermutation-sym so_far sorted same) is.taken))
      up (climbs-filter (λ (e : Entry). e.1.order) (has_little limit rows) rows (climbs rows order.rises))
    where
      climbs : (xs : List Entry) → Rises xs → Climbs (λ (e : Entry). e.1.order) xs
      climbs [] rises = tt
      climbs (x ∷ xs) rises = (rises.0, climbs xs rises.1)

-- ---- turns of the loop over the accounts with the least balance

pub cleared_next : (Has Has' : List Entry → Type 0) (limit : ℕ) (rows so_far now : List Entry) (account : ℕ) → (is : IsCleared Has limit rows so_far)
    → units_in account (filter (λ e. not (is.gone e.1.account)) rows) < limit
    → Has' (filter (λ e. not (is_of account e)) (filter (λ e. not (is.gone e.1.account)) rows))
    → now ≡ so_far ++ of_account account (filter (λ e. not (is.gone e.1.account)) rows)
    → IsCleared Has' limit rows now
cleared_next Has Has' limit rows so_far now account is below others put =
    elim (is.gone account) as (λ r. is.gone account ≡ r → IsCleared Has' limit rows now) [
      | true ↦ λ before. record {
        gone = is.gone;
        left = subst Has' (all_left limit rows is.gone account before) others;
        taken = subst (λ l. IsPermutation l (filter (λ e. is.gone e.1.account) rows)) (sym (put ∙ ap (λ l. so_far ++ l) (none_left limit rows is.gone account before) ∙ append-nil so_far)) is.taken;
        little = is.little;
      }
      | false ↦ λ here. cleared_more Has Has' limit rows so_far now account is here below others put
    ] refl

-- where the least balance has the limit, all have
least_enough : (limit : ℕ) (rows : List Entry) (least : ℕ × ℕ) → IsLeastBalance rows least → limit ≤ least.0 → HasEnough limit rows
least_enough limit rows least is enough = record {
  each = all_more (λ e. IsAtMost least (balance_of_row rows e)) (λ e. limit ≤ units_in e.1.account rows)
      (λ e at_most. elim at_most [ inl more ↦ omega (arith, more, enough) | inr same ↦ omega (arith, same.0, enough) ]) rows is.least;
}

pub below_found : (limit : ℕ) (rows : List Entry) (least : ℕ × ℕ) → IsLeastBalance rows least → (o : Option ℕ) → IfSome o (λ account. (account ≡ least.1) × (least.0 < limit))
    → IfSome o (λ account. units_in account rows < limit)
below_found limit rows least is None below = tt
below_found limit rows least is (Some account) below = subst (λ a. units_in a rows < limit) (sym below.0) (subst (λ n. n < limit) is.is.units below.1)

pub below_none : (limit : ℕ) (rows : List Entry) (least : ℕ × ℕ) → IsLeastBalance rows least → (o : Option ℕ) → IfNone o (limit ≤ least.0) → IfNone o (HasEnough limit rows)
below_none limit rows least is None enough = least_enough limit rows least is enough
below_none limit rows least is (Some account) enough = tt

pub none_enough : (limit : ℕ) (rows : List Entry) → rows ≡ [] → HasEnough limit rows
none_enough limit rows none = subst (HasEnough limit) (sym none) (record { each = tt })
