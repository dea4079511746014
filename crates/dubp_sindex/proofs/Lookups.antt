-- What the code finds in the table of balances: the account that has least, and the units of an account.
use Rattle.std.proofs.Common.{◌≡◌, ℕ, ◌<◌, ◌≤◌, nat_lt, true, false, List, [], ◌∷◌, Some, length, sum_by, refl, ap, sym, ◌∙◌, subst, inl, inr, arith}
use Rattle.std.specs.Prelude.{◌^◌, ⊤}
use Rattle.std.specs.Option.{option_map_or}
use Rattle.std.specs.List.{list_any}
use Rattle.std.specs.Ordering.{nat_cmp}
use Rattle.std.proofs.lemmas.Option.{none-some}
use Rattle.std.proofs.lemmas.Bool.{ltb-true, ltb-false}
use Rattle.std.proofs.lemmas.Bool.Decides.{Decides-eqb}
use Rattle.dubp_undo.specs.MovingTable.{get, IsLowest, HasNone}
use Rattle.dubp_sindex.specs.declared.rows.Balance.{Balance}
use Rattle.dubp_sindex.specs.Rows.{Entry, units_of_entry, is_of, of_account, units_in, IsAtMost, IsLeastBalance, balance_of_row}
use Rattle.dubp_sindex.specs.Derived.{last_of, balance_of, balance_at, measure}
use Rattle.dubp_sindex.proofs.Elements.{IsIn, all_from_in, in_any, in_filter, kept_in}

-- ---- the account that has least

-- what stands at an account that has a balance
balance_there : (a : ℕ) (rows : List Entry) (b : Balance) → balance_at a rows ≡ Some b → (list_any (is_of a) rows ≡ true) × (b.units ≡ units_in a rows) × (b.account ≡ a)
balance_there a rows b is = by (of_account a rows) refl is
  where
    by : (xs : List Entry) → of_account a rows ≡ xs → balance_of a xs ≡ Some b → (list_any (is_of a) rows ≡ true) × (b.units ≡ units_in a rows) × (b.account ≡ a)
    by [] are is = absurd (none-some b is)
    by (x ∷ xs) are is =
        let h = in_filter (is_of a) rows x (subst (IsIn x) (sym are) (inl refl)) in (
          in_any (is_of a) rows x h.0 h.1,
          ap (λ o. option_map_or (λ (y : Balance). y.units) o 0) (sym is) ∙ ap (sum_by units_of_entry) (sym are),
          ap (λ o. option_map_or (λ (y : Balance). y.account) o a) (sym is),
        )

-- the account of a row has a balance
record HasBalance (rows : List Entry) (account : ℕ) : Type 0 where
  pub balance : Balance
  pub is : balance_at account rows ≡ Some balance
  pub units : balance.units ≡ units_in account rows
  pub account_is : balance.account ≡ account

row_balance : (rows : List Entry) (e : Entry) → IsIn e rows → HasBalance rows e.1.account
row_balance rows e there = by (of_account e.1.account rows) refl (kept_in (is_of e.1.account) rows e there ((Decides-eqb e.1.account e.1.account).1 refl))
  where
    by : (xs : List Entry) → of_account e.1.account rows ≡ xs → IsIn e xs → HasBalance rows e.1.account
    by [] are none = absurd none
    by (x ∷ xs) are there = record {
      balance = record { account = e.1.account; units = sum_by units_of_entry (x ∷ xs); count = length (x ∷ xs); first = x.1.order; last = last_of x xs };
      is = ap (balance_of e.1.account) are;
      units = ap (sum_by units_of_entry) (sym are);
      account_is = refl;
    }

-- the order of measures is that of units, and of numbers where the units are the same
pub below_is : (a b : Balance) → a.account < 2 ^ 64 → measure a ≤ measure b → IsAtMost (a.units, a.account) (b.units, b.account)
below_is a b fits le =
    elim (nat_lt a.units b.units) as (λ r. nat_lt a.units b.units ≡ r → IsAtMost (a.units, a.account) (b.units, b.account)) [
      | true ↦ λ is. inl (ltb-true a.units b.units is)
      | false ↦ λ is. let not = ltb-false a.units b.units is in inr (omega (arith, not, fits, le), omega (arith, not, fits, le))
    ] refl

module _ (o : List (ℕ × Balance)) (rows : List Entry) (at : (a : ℕ) → get nat_cmp o a ≡ balance_at a rows) where
  pub least_is : (account : ℕ) (b : Balance) → account < 2 ^ 64 → IsLowest nat_cmp measure o (account, b) → IsLeastBalance rows (b.units, account)
  least_is account b fits lowest =
      let h = balance_there account rows b (sym (at account) ∙ lowest.value) in
      record {
        is = record { there = h.0; units = h.1 };
        least = all_from_in (λ e. IsAtMost (b.units, account) (balance_of_row rows e)) rows (λ e there. (
            let v = row_balance rows e there in
            subst (λ n. IsAtMost (b.units, n) (balance_of_row rows e)) h.2
            (subst (λ u. IsAtMost (b.units, b.account) (u, e.1.account)) v.units
            (subst (λ n. IsAtMost (b.units, b.account) (v.balance.units, n)) v.account_is
            (below_is b v.balance (subst (λ n. n < 2 ^ 64) (sym h.2) fits) (lowest.lowest e.1.account v.balance (at e.1.account ∙ v.is)))))));
      }

  pub no_rows : HasNone nat_cmp o (λ q. ⊤) → rows ≡ []
  no_rows none = by rows (λ e there. none-some _ (sym (none e.1.account tt) ∙ at e.1.account ∙ (row_balance rows e there).is))
    where
      by : (xs : List Entry) → ((e : Entry) → IsIn e xs → ⊥) → xs ≡ []
      by [] none = refl
      by (e ∷ xs) none = absurd (none e (inl refl))

-- ---- the balance of an account

pub units_is : (a : ℕ) (xs : List Entry) → option_map_or (λ (b : Balance). b.units) (balance_of a xs) 0 ≡ sum_by units_of_entry xs
units_is a [] = refl
units_is a (x ∷ xs) = refl
