-- What the numbers of a balance are bounded by: an account has at most the units of all rows, and these are no more than their places.
use Rattle.std.proofs.Common.{◌≡◌, ℕ, ◌+◌, ◌<◌, ◌≤◌, List, [], ◌∷◌, Option, not, length, sum_by, refl, sym, subst, ◌∙◌, arith}
use Rattle.std.specs.Prelude.{◌^◌}
use Rattle.std.specs.List.{AllByRecursion}
use Rattle.std.proofs.lemmas.List.Filters.{length-filter_both, sum_by-filter_both}
use Rattle.dubp_sindex.specs.declared.rows.Balance.{Balance}
use Rattle.dubp_sindex.specs.Rows.{Entry, units_of_entry, is_of, of_account, Rises, IsBelow, IsInRange, AreRows, Fits}
use Rattle.dubp_sindex.specs.Derived.{balance_of, balance_at}
use Rattle.dubp_sindex.specs.Changes.{JoinFits, joined}

-- rows behind a place have each a place of their own
few_behind : (order : ℕ) (rows : List Entry) → order < 2 ^ 63 → IsBelow order rows → Rises rows → AllByRecursion IsInRange rows → order + length rows < 2 ^ 63
few_behind order [] within below rises in_range = omega (arith, within)
few_behind order (x ∷ rows) within below rises in_range =
    omega (arith, below.0, few_behind x.1.order rows in_range.0.2 rises.0 rises.1 in_range.1)

few_rows : (rows : List Entry) → Rises rows → AllByRecursion IsInRange rows → length rows ≤ 2 ^ 63
few_rows [] rises in_range = omega arith
few_rows (x ∷ rows) rises in_range = omega (arith, few_behind x.1.order rows in_range.0.2 rises.0 rises.1 in_range.1)

balance_fits : (account : ℕ) (xs : List Entry) (units : ℕ) → sum_by units_of_entry xs + units < 2 ^ 128 → length xs + 1 < 2 ^ 64 → JoinFits (balance_of account xs) units
balance_fits account [] units whole counted = tt
balance_fits account (x ∷ xs) units whole counted = (whole, counted)

-- the balance of the account takes one more row where the units of all rows do
join_fits : (rows : List Entry) (e : Entry) → AreRows rows → Fits rows e → JoinFits (balance_at e.1.account rows) (units_of_entry e)
join_fits rows e are fits =
    let other = λ (x : Entry). not (is_of e.1.account x) in
    balance_fits e.1.account (of_account e.1.account rows) (units_of_entry e)
    (omega (arith, fits, sum_by-filter_both (is_of e.1.account) other (λ x. refl) units_of_entry rows))
    (omega (arith, few_rows rows are.rises are.in_range, length-filter_both (is_of e.1.account) other (λ x. refl) rows))

-- so what the code makes of it is what it has with the row
pub join_is : (rows : List Entry) (e : Entry) (balance : Option Balance) → balance ≡ balance_at e.1.account rows → AreRows rows → Fits rows e → (n : ℕ) → n ≡ units_of_entry e
    → (prev next : Option ℕ) (after : Balance) → (JoinFits balance n → after ≡ joined balance e.1.account n e.1.order prev next) → after ≡ joined (balance_at e.1.account rows) e.1.account (units_of_entry e) e.1.order prev next
join_is rows e balance was are fits n is prev next after join =
    join (subst (λ b. JoinFits b n) (sym was) (subst (JoinFits (balance_at e.1.account rows)) (sym is) (join_fits rows e are fits)))
    ∙ (λ i. joined (was i) e.1.account (is i) e.1.order prev next)
